-- What holds of links that lead.
use Rattle.std.proofs.Common.{◌≡◌, ◌&&◌, ℕ, List, [], ◌∷◌, ◌++◌, Bool, true, false, Option, None, Some, bytes_eq, codes, refl, ap, ◌∙◌}
use Rattle.std.specs.Prelude.{if◌then◌else◌, option_to_list}
use Rattle.html_dom_tree.specs.Tree.{Head, NodeView, tag_node, text_node, element_node, frame_node, NodesView, none, node}
use Rattle.html_links.specs.{Indicated.{place_names}, TreeNames.{first_id, frame_names, gathered_names}}
use Rattle.html_anchors.specs.LinkLaws.{LeftAreDead, NamesStay}
use Rattle.html_anchors.specs.Links.{Hrefs, dest_before, open_dest, href_of, attrs_with_href, head_with_link, node_with_links, nodes_with_links, dead_without, dead_link, node_dead_links, nodes_dead_links, tag_dest}

-- an `href` in front is neither an `id` nor a `name`
pub id_stays : (hrefs : Hrefs) (dest : Option ℕ) (h : Head) →
    first_id (head_with_link hrefs dest h) ≡ first_id h
id_stays hrefs dest h = by (href_of hrefs (open_dest h dest))
  where
    by : (href : Option (List ℕ)) →
        first_id (record h { attrs = attrs_with_href href h.attrs }) ≡ first_id h
    by None = refl
    by (Some href) = refl

pub place_names_stay : (hrefs : Hrefs) (dest : Option ℕ) (h : Head) →
    place_names h.name (head_with_link hrefs dest h).attrs ≡ place_names h.name h.attrs
place_names_stay hrefs dest h = by (href_of hrefs (open_dest h dest))
  where
    by : (href : Option (List ℕ)) →
        place_names h.name (attrs_with_href href h.attrs) ≡ place_names h.name h.attrs
    by None = refl
    by (Some href) = refl

pub names_stay : NamesStay
unfolding nodes_with_links gathered_names
names_stay hrefs before none = record { shown = refl; first = refl; places = refl }
names_stay hrefs before (node (tag_node t) ns) =
    let behind = names_stay hrefs (tag_node t ∷ before) ns in
    record { shown = behind.shown; first = behind.first; places = behind.places }
names_stay hrefs before (node (text_node s span) ns) =
    let behind = names_stay hrefs (text_node s span ∷ before) ns in
    record { shown = behind.shown; first = behind.first; places = behind.places }
names_stay hrefs before (node (element_node h kids) ns) =
    let id = ap option_to_list (id_stays hrefs (dest_before before) h) in
    let own = place_names_stay hrefs (dest_before before) h in
    let inside = names_stay hrefs [] kids in
    let behind = names_stay hrefs (element_node h kids ∷ before) ns in
    record {
      shown = rw (id, inside.shown, behind.shown) refl;
      first = rw (id, inside.first, behind.first) refl;
      places = rw (own, inside.places, behind.places) refl;
    }
names_stay hrefs before (node (frame_node f) ns) =
    let behind = names_stay hrefs (frame_node f ∷ before) ns in
    record {
      shown = ap (λ names. frame_names f ++ names) behind.shown;
      first = behind.first;
      places = ap (λ names. frame_names f ++ names) behind.places;
    }

abbrev no_hrefs : Hrefs
no_hrefs dest = None

not_open : (is_a : Bool) (dest : Option ℕ) (span : ℕ) →
    dead_link no_hrefs (if is_a && false then dest else None) span ≡ []
not_open true dest span = refl
not_open false dest span = refl

link_left : (hrefs : Hrefs) (h : Head) (dest wanted : Option ℕ) → open_dest h dest ≡ wanted →
    dead_link no_hrefs
    (open_dest (record h { attrs = attrs_with_href (href_of hrefs wanted) h.attrs }) dest) h.span
    ≡ dead_link hrefs wanted h.span
link_left hrefs h dest None is = ap (λ o. dead_link no_hrefs o h.span) is
link_left hrefs h dest (Some d) is = by (hrefs d)
  where
    by : (href : Option (List ℕ)) →
        dead_link no_hrefs
        (open_dest (record h { attrs = attrs_with_href href h.attrs }) dest) h.span
        ≡ dead_without href h.span d
    by None = ap (λ o. dead_link no_hrefs o h.span) is
    by (Some href) = not_open (bytes_eq h.name (codes "a")) dest h.span

-- what stands before a place leads there as before
dest_stays : (hrefs : Hrefs) (dest : Option ℕ) (after before : List NodeView) (n : NodeView) →
    dest_before after ≡ dest_before before →
    dest_before (node_with_links hrefs dest n ∷ after) ≡ dest_before (n ∷ before)
unfolding node_with_links
dest_stays hrefs dest after before (tag_node t) same = ap (tag_dest t) same
dest_stays hrefs dest after before (text_node s span) same = refl
dest_stays hrefs dest after before (element_node h kids) same = refl
dest_stays hrefs dest after before (frame_node f) same = refl

nodes_left : (hrefs : Hrefs) (after before : List NodeView) (ns : NodesView) →
    dest_before after ≡ dest_before before →
    nodes_dead_links no_hrefs after (nodes_with_links hrefs before ns)
    ≡ nodes_dead_links hrefs before ns
unfolding nodes_with_links nodes_dead_links node_with_links node_dead_links
nodes_left hrefs after before none same = refl
nodes_left hrefs after before (node (tag_node t) ns) same =
    nodes_left hrefs _ _ ns
    (dest_stays hrefs (dest_before before) after before (tag_node t) same)
nodes_left hrefs after before (node (text_node s span) ns) same =
    nodes_left hrefs _ _ ns refl
nodes_left hrefs after before (node (element_node h kids) ns) same =
    let dest = dest_before before in
    let wanted = open_dest h dest in
    let made = head_with_link hrefs dest h in
    let own =
    ap (λ d. dead_link no_hrefs (open_dest made d) h.span) same
    ∙ link_left hrefs h dest wanted refl in
    let inside = nodes_left hrefs [] [] kids refl in
    let behind = nodes_left hrefs
    (element_node made (nodes_with_links hrefs [] kids) ∷ after)
    (element_node h kids ∷ before) ns refl in
    rw (own, inside, behind) refl
nodes_left hrefs after before (node (frame_node f) ns) same =
    nodes_left hrefs _ _ ns refl

pub left_are_dead : LeftAreDead
left_are_dead hrefs ns = nodes_left hrefs [] [] ns refl
