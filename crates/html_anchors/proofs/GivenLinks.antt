-- Each link that was given an `href` leads to a name of the tree.
use Rattle.std.proofs.Common.{◌≡◌, ℕ, List, [], ◌∷◌, All, Bool, true, false, not, ◌&&◌, ◌||◌, Option, None, Some, chars, codes, refl, sym, ap, ◌∙◌, String, Global, arith}
use Rattle.std.proofs.{lemmas.Bool.{and_parts, or_right}, lemmas.Str.{IsUtf8-string_bytes, chars-encodes}}
use Rattle.std.proofs.lemmas.List.Elements.{All-nil, All-cons, All-append, All-weaker}
use Rattle.std.specs.{BTreeMap.{BTreeMap, get}, Prelude.{if◌then◌else◌, is_some, option_map}}
use lib.Utf8.{scalars}
use Rattle.html_names_core.specs.{Names.{stands_in}, Texts.{text_view}}
use Rattle.html_dom_tree.specs.Attributes.{first, has_name}
use Rattle.html_dom_tree.specs.Tree.{TextPair, Head, NodeView, tag_node, text_node, element_node, frame_node, NodesView, none, node, ElementView}
use Rattle.html_dom_tree.specs.declared.introspection.Location.{Location}
use Rattle.html_dom_document.specs.{Documents.{DocumentView, document_root}, Introspectors.{location_cmp, location_text}}
use Rattle.html_dom_document.specs.{Views.{document_view}, declared.document.HtmlDocument.{HtmlDocument}}
use Rattle.html_links.proofs.{Gathering.{stands-append}, ShownNames.{shown_once}, SpelledNames.{leading_hrefs_lead}}
use Rattle.html_links.specs.Indicated.{element_places, nodes_places, place_names}
use Rattle.html_links.specs.Spellings.{some_name, leading_href}
use Rattle.html_links.specs.TreeNames.{shown_names, Name, element_names, frame_names, gathered_names}
use Rattle.html_anchors.proofs.{ChangedRoots.{root_has_links}, Counting.{all_names_stay}, LeadingLinks.{left_are_dead, names_stay}}
use Rattle.html_anchors.specs.DistinctIds.{IdsAreDistinct, GivenLinksLeadToOne, LeadsToOne}
use Rattle.html_anchors.specs.GivenLinks.{KnownAnchorsAreShown, AnchorsAreTexts, GivenLink, GivenLinksLead, LeadsAmong, given_by, given_link, links_without, node_given_links, nodes_given_links}
use Rattle.html_anchors.specs.Links.{Anchors, Hrefs, anchor_hrefs, attrs_with_href, dest_before, document_hrefs, document_links_left, document_with_links, head_with_link, href_of, is_open, node_with_links, nodes_with_links}

pub known_name : (known : Option Name) (name : Name) → some_name known ≡ Some name → known ≡ Some name
known_name None name e = e
known_name (Some []) name e = cc
known_name (Some (c ∷ cs)) name e = e

pub no_href : (is_a : Bool) (attrs : List TextPair) →
    (is_a && not (has_name attrs (codes "href"))) ≡ true → first attrs (codes "href") ≡ None
no_href is_a attrs e = by (first attrs (codes "href")) (and_parts _ _ e).1
  where
    by : (href : Option (List ℕ)) → not (is_some href) ≡ true → href ≡ None
    by None e = refl
    by (Some href) e = cc

-- an `id` is the name of a place

or_grows : (i l k n k' n' : Bool) → (k ≡ true → k' ≡ true) → (n ≡ true → n' ≡ true) →
    (i || (k || n)) ≡ true → ((i || l) || (k' || n')) ≡ true
or_grows i l k n k' n' ks ns e = grind arith

or_passes : (b k k' : Bool) → (k ≡ true → k' ≡ true) → (b || k) ≡ true → (b || k') ≡ true
or_passes b k k' ks e = grind arith

shown_are_places : (ns : NodesView) (n : Name) → stands_in (shown_names ns) n ≡ true →
    stands_in (nodes_places ns) n ≡ true
unfolding gathered_names
shown_are_places none n e = e
shown_are_places (node (tag_node t) ns) n e = shown_are_places ns n e
shown_are_places (node (text_node s span) ns) n e = shown_are_places ns n e
shown_are_places (node (element_node h kids) ns) n e =
    simp stands-append (or_grows _ _ _ _ _ _ (shown_are_places kids n) (shown_are_places ns n)
    (simp stands-append at e))
shown_are_places (node (frame_node f) ns) n e =
    stands-append (frame_names f) _ n ∙ or_passes _ _ _ (shown_are_places ns n)
    (sym (stands-append (frame_names f) _ n) ∙ e)

pub shown_is_place : (e : ElementView) (n : Name) → stands_in (shown_names e.1) n ≡ true →
    stands_in (element_places e) n ≡ true
shown_is_place e n there =
    stands-append (place_names e.0.name e.0.attrs) _ n ∙ or_right _ _ (shown_are_places e.1 n there)

-- each link that got an `href` has what each `href` of a location has
module _ (hrefs : Hrefs) (P : GivenLink → Type 0)
    (holds : (dest : ℕ) (href : List ℕ) → hrefs dest ≡ Some href → P (dest, href)) where
  link_given : (dest : ℕ) (attrs : List TextPair) → first attrs (codes "href") ≡ None →
      All P (given_by dest (first (attrs_with_href (hrefs dest) attrs) (codes "href")))
  link_given dest attrs none_is = by (hrefs dest) refl
    where
      by : (href : Option (List ℕ)) → hrefs dest ≡ href →
          All P (given_by dest (first (attrs_with_href href attrs) (codes "href")))
      by None is = rw none_is (All-nil P)
      by (Some href) is = All-cons P (dest, href) [] (holds dest href is) (All-nil P)

  head_given : (dest : Option ℕ) (h : Head) → All P (given_link dest h (head_with_link hrefs dest h))
  head_given None h = All-nil P
  head_given (Some dest) h = by (is_open h) refl
    where
      by : (lacks : Bool) → is_open h ≡ lacks → All P (if lacks
          then given_by dest (first
          (attrs_with_href (href_of hrefs (if lacks then Some dest else None)) h.attrs)
          (codes "href"))
          else [])
      by true is = link_given dest h.attrs (no_href _ h.attrs is)
      by false is = All-nil P

  pub all_given : (before : List NodeView) (ns : NodesView) →
      All P (nodes_given_links before ns (nodes_with_links hrefs before ns))
  unfolding nodes_given_links node_given_links nodes_with_links node_with_links
  all_given before none = All-nil P
  all_given before (node (tag_node t) ns) = all_given (tag_node t ∷ before) ns
  all_given before (node (text_node s span) ns) = all_given (text_node s span ∷ before) ns
  all_given before (node (element_node h kids) ns) =
      All-append P _ _
      (All-append P _ _ (head_given (dest_before before) h) (all_given [] kids))
      (all_given (element_node h kids ∷ before) ns)
  all_given before (node (frame_node f) ns) = all_given (frame_node f ∷ before) ns

module _ (anchor : Anchors) (places ids : List Name) (texts : AnchorsAreTexts anchor)
    (shown : (location : ℕ) (name : Name) → anchor location ≡ Some name → stands_in ids name ≡ true)
    (among : (name : Name) → stands_in ids name ≡ true → stands_in places name ≡ true) where
  abbrev Leads : GivenLink → Type 0
  Leads = LeadsAmong anchor places ids

  abbrev hrefs : Hrefs
  hrefs = anchor_hrefs (stands_in places) anchor

  named_leads : (dest : ℕ) (name href : List ℕ) → some_name (anchor dest) ≡ Some name →
      leading_href (stands_in places) (Some name) ≡ Some href → Leads (dest, href)
  named_leads dest name href named is =
      let known = known_name (anchor dest) name named in
      let there = shown dest name known in
      record {
        name = name;
        leads = leading_hrefs_lead _ name href (texts dest name known)
            (ap some_name (sym known) ∙ named) (among name there) is;
        is_anchor = known;
        stands = there;
      }

  pub location_leads : (dest : ℕ) (href : List ℕ) → hrefs dest ≡ Some href → Leads (dest, href)
  location_leads dest href = by (some_name (anchor dest)) refl
    where
      by : (name : Option Name) → some_name (anchor dest) ≡ name →
          leading_href (stands_in places) name ≡ Some href → Leads (dest, href)
      by None named is = cc
      by (Some name) named is = named_leads dest name href named is

  pub nodes_lead : (before : List NodeView) (ns : NodesView) →
      All Leads (nodes_given_links before ns (nodes_with_links hrefs before ns))
  nodes_lead = all_given hrefs Leads location_leads

-- the anchors that an introspector knows are texts
text_is_scalars : (s : String Global) → scalars (text_view s) ≡ true
text_is_scalars s =
    let utf8 = IsUtf8-string_bytes s in
    ap scalars (ap chars (sym utf8.1.1) ∙ chars-encodes utf8.0 utf8.1.0) ∙ utf8.1.0

pub texts_in : (map : BTreeMap Location (String Global)) → AnchorsAreTexts (location_text map)
texts_in map location name is = by (get location_cmp map (record { 0 = location })) is
  where
    by : (found : Option (String Global)) → option_map text_view found ≡ Some name →
        scalars name ≡ true
    by None e = cc
    by (Some s) e =
        let same : text_view s ≡ name = cc in
        sym (ap scalars same) ∙ text_is_scalars s

pub given_links_lead : (d new : DocumentView) → AnchorsAreTexts d.introspector.anchor →
    new ≡ document_with_links d → KnownAnchorsAreShown d → GivenLinksLead d new
given_links_lead d new texts is shown =
    let root = document_root d in
    let stay = names_stay (document_hrefs d) [] root.1 in
    rw (is, root_has_links d, stay.places, stay.shown) (nodes_lead d.introspector.anchor
    (element_places root) (shown_names root.1) texts shown (shown_is_place root) [] root.1)

pub document_links_lead : (old : HtmlDocument) (new : DocumentView) →
    new ≡ document_with_links (document_view old) → KnownAnchorsAreShown (document_view old) →
    GivenLinksLead (document_view old) new
document_links_lead old new = given_links_lead _ new (texts_in old.introspector.anchors)

-- names that differ do so with links too
pub links_stay_distinct : (d new : DocumentView) → new ≡ document_with_links d → IdsAreDistinct d →
    IdsAreDistinct new
links_stay_distinct d new is distinct =
    rw (is, root_has_links d, all_names_stay (document_hrefs d) (document_root d)) distinct

-- and then each link leads to one name
pub links_lead_to_one : (old : HtmlDocument) (new : DocumentView) →
    new ≡ document_with_links (document_view old) → KnownAnchorsAreShown (document_view old) →
    IdsAreDistinct (document_view old) → GivenLinksLeadToOne (document_view old) new
links_lead_to_one old new is shown was_distinct =
    let root = document_root new in
    let anchor = new.introspector.anchor in
    let names = shown_names root.1 in
    let distinct = links_stay_distinct (document_view old) new is was_distinct in
    let places = element_places root in
    All-weaker (LeadsAmong anchor places names) (LeadsToOne anchor places names (element_names root))
    (λ link leads. record { among = leads; once = shown_once leads.name root distinct leads.stands })
    _ (document_links_lead old new is shown)

pub left_in_document : (d new : DocumentView) → new ≡ document_with_links d →
    links_without (document_root new).1 ≡ document_links_left d
left_in_document d new is =
    rw (is, root_has_links d) (left_are_dead (document_hrefs d) (document_root d).1)
