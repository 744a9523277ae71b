-- Links that a browser follows: those to anchors that it finds.
use Rattle.std.proofs.Common.{◌≡◌, ℕ, Bool, true, false, List, [], ◌∷◌, ◌++◌, All, Option, Some, None, inl, inr, refl, sym, ap, ◌∙◌, arith}
use Rattle.std.proofs.{Math.Path.{fun_ext}, lemmas.Bool.{cases_Bool}}
use Rattle.std.proofs.lemmas.List.Elements.{All-append, All-cons, All-contains_itself, All-head, All-nil, All-weaker, Contains-append_left, Contains-append_right}
use Rattle.std.specs.{List.{Contains}, Option.{option_and_then}, Prelude.{codes, if◌then◌else◌, is_some}}
use Rattle.html_names_core.specs.Names.{stands_in}
use Rattle.html_dom_tree.specs.Attributes.{first}
use Rattle.html_dom_tree.specs.Tree.{Head, NodeView, tag_node, text_node, element_node, frame_node, NodesView, none, node, ElementView}
use Rattle.html_dom_document.specs.{Documents.{DocumentView, document_root}, Views.{document_view}}
use Rattle.html_dom_document.specs.declared.document.HtmlDocument.{HtmlDocument}
use Rattle.html_links.proofs.{InDocument.{place_in_tree}, Narrowed.{leads_within}, SpelledNames.{leading_hrefs_lead}}
use Rattle.html_links.specs.{Bases.{base_is_elsewhere}, InDocument.{document_places, in_document}}
use Rattle.html_links.specs.{Indicated.{element_places, if_place, place_names}, Spellings.{some_name, leading_href}, TreeNames.{Name}}
use Rattle.html_anchors.proofs.{ChangedRoots.{root_has_links}, GivenLinks.{all_given, document_links_lead, left_in_document, texts_in}}
use Rattle.html_anchors.proofs.{KeptBases.{base_stays_elsewhere}, LeadingLinks.{names_stay}, LinkedParts.{document_links}}
use Rattle.html_anchors.specs.DeadLinks.{dead_links_view}
use Rattle.html_anchors.specs.FoundAnchors.{EveryLinkLeads, LeadsToFound, LiveLinksLead, anchors_found, document_dead_links, is_found, live_hrefs}
use Rattle.html_anchors.specs.GivenLinks.{AnchorsAreTexts, GivenLink, KnownAnchorsArePlaces, document_given_links, given_by, given_link, node_given_links, nodes_given_links}
use Rattle.html_anchors.specs.LinkLaws.{DeadAreLeft, LeftLinksAreDead}
use Rattle.html_anchors.specs.Links.{Anchors, DeadLinkView, Hrefs, anchor_hrefs, dead_link, dead_without, dest_before, document_hrefs, document_with_links, is_open, node_dead_links, node_with_links, nodes_dead_links, nodes_with_links, open_dest, root_with_links}
use Rattle.html_anchors.specs.declared.dead.DeadLink.{DeadLink}

-- a name that is found is one of the tree
pub found_in_tree : (e : ElementView) (name : Name) → is_found e name ≡ true →
    stands_in (element_places e) name ≡ true
found_in_tree e name is = elim (cases_Bool (base_is_elsewhere e)) [
  | inl b ↦ let none = rw b at is in cc
  | inr b ↦ place_in_tree e name (rw b at is)
]

-- a link changes neither places nor the base
pub found_stay : (hrefs : Hrefs) (e : ElementView) → is_found (root_with_links hrefs e) ≡ is_found e
found_stay hrefs e =
    let d = in_document e in
    let places : document_places (root_with_links hrefs e) ≡ document_places e =
    ap element_places (document_links hrefs e)
    ∙ ap (λ names. place_names d.0.name d.0.attrs ++ names) (names_stay hrefs [] d.1).places in
    rw (base_stays_elsewhere hrefs e, places) refl

module _ (anchor : Anchors) (places : List Name) (found : Name → Bool) where
  abbrev live : Hrefs
  live = anchor_hrefs (stands_in places) (anchors_found found anchor)

  -- what is live has the name of an anchor that is found
  record IsLive (dest : ℕ) (href : List ℕ) : Type 0 where
    name : Name
    known : anchor dest ≡ Some name
    named : some_name (Some name) ≡ Some name
    there : found name ≡ true
    chosen : leading_href (stands_in places) (Some name) ≡ Some href

  what_is_live : (dest : ℕ) (href : List ℕ) → live dest ≡ Some href → IsLive dest href
  what_is_live dest href = by (anchor dest) refl
    where
      chosen_from : (name : Name) → anchor dest ≡ Some name → (b : Bool) → found name ≡ b →
          leading_href (stands_in places) (some_name (if b then Some name else None)) ≡ Some href →
          IsLive dest href
      chosen_from name known false is chosen = cc
      chosen_from [] known true is chosen = cc
      chosen_from (c ∷ cs) known true is chosen =
          record { name = c ∷ cs; known = known; named = refl; there = is; chosen = chosen }

      by : (known : Option Name) → anchor dest ≡ known →
          leading_href (stands_in places) (some_name (option_and_then (if_place found) known))
          ≡ Some href → IsLive dest href
      by None known chosen = cc
      by (Some name) known chosen = chosen_from name known (found name) refl chosen

  pub live_is_given : (dest : ℕ) (href : List ℕ) → live dest ≡ Some href →
      anchor_hrefs (stands_in places) anchor dest ≡ Some href
  live_is_given dest href is =
      let l = what_is_live dest href is in
      rw (l.known, l.named) l.chosen

  module _ (texts : AnchorsAreTexts anchor)
      (among : (n : Name) → found n ≡ true → stands_in places n ≡ true) where
    pub live_leads : (dest : ℕ) (href : List ℕ) → live dest ≡ Some href →
        LeadsToFound anchor found (dest, href)
    live_leads dest href is =
        let l = what_is_live dest href is in
        record {
          name = l.name;
          leads = leads_within found (stands_in places) among l.name l.there href
              (leading_hrefs_lead _ l.name href (texts dest l.name l.known) l.named
              (among l.name l.there) l.chosen);
          is_anchor = l.known;
        }

    -- the `href` that a live link got leads
    pub given_leads : (dest : ℕ) (href : List ℕ) →
        anchor_hrefs (stands_in places) anchor dest ≡ Some href → is_some (live dest) ≡ true →
        LeadsToFound anchor found (dest, href)
    given_leads dest href given = by (live dest) refl
      where
        by : (o : Option (List ℕ)) → live dest ≡ o → is_some o ≡ true →
            LeadsToFound anchor found (dest, href)
        by None is some = cc
        by (Some other) is some = let again = live_is_given dest other is in live_leads dest href cc

-- the same in a document
module _ (d : DocumentView) where
  abbrev the_root : ElementView
  the_root = document_root d

  pub live_is_document_href : (dest : ℕ) (href : List ℕ) → live_hrefs d dest ≡ Some href →
      document_hrefs d dest ≡ Some href
  live_is_document_href =
      live_is_given d.introspector.anchor (element_places the_root) (is_found the_root)

  -- where all known anchors are found, each `href` is live
  pub all_are_live : base_is_elsewhere the_root ≡ false → KnownAnchorsArePlaces d →
      (dest : ℕ) → live_hrefs d dest ≡ document_hrefs d dest
  all_are_live here are dest =
      ap (leading_href _) (ap some_name (by (d.introspector.anchor dest) refl))
    where
      by : (known : Option Name) → d.introspector.anchor dest ≡ known →
          option_and_then (if_place (is_found the_root)) known ≡ known
      by None known = refl
      by (Some name) known = rw (here, are dest name known) refl

-- links that are dead without more of the `href`s
module _ (few many : Hrefs)
    (among : (dest : ℕ) (href : List ℕ) → few dest ≡ Some href → many dest ≡ Some href) where
  dead_among : (wanted : Option ℕ) (span : ℕ) →
      All (Contains (dead_link few wanted span)) (dead_link many wanted span)
  dead_among None span = All-nil _
  dead_among (Some dest) span = by (few dest) (many dest) (among dest)
    where
      by : (f m : Option (List ℕ)) → ((href : List ℕ) → f ≡ Some href → m ≡ Some href) →
          All (Contains (dead_without f span dest)) (dead_without m span dest)
      by None None is = All-contains_itself ((span, dest) ∷ [])
      by None (Some href) is = All-nil (Contains ((span, dest) ∷ []))
      by (Some href) m is = rw (is href refl) (All-nil (Contains []))

  both_contained : (as' bs cs ds : List DeadLinkView) → All (Contains as') cs →
      All (Contains bs) ds → All (Contains (as' ++ bs)) (cs ++ ds)
  both_contained as' bs cs ds left right = All-append (Contains (as' ++ bs)) cs ds
      (All-weaker (Contains as') (Contains (as' ++ bs)) (Contains-append_left as' bs) cs left)
      (All-weaker (Contains bs) (Contains (as' ++ bs)) (Contains-append_right as' bs) ds right)

  pub more_are_dead : (before : List NodeView) (ns : NodesView) →
      All (Contains (nodes_dead_links few before ns)) (nodes_dead_links many before ns)
  unfolding nodes_dead_links node_dead_links
  more_are_dead before none = All-nil _
  more_are_dead before (node (tag_node t) ns) = more_are_dead (tag_node t ∷ before) ns
  more_are_dead before (node (text_node s span) ns) = more_are_dead (text_node s span ∷ before) ns
  more_are_dead before (node (element_node h kids) ns) =
      both_contained _ _ _ _
      (both_contained _ _ _ _ (dead_among (open_dest h (dest_before before)) h.span)
      (more_are_dead [] kids)) (more_are_dead (element_node h kids ∷ before) ns)
  more_are_dead before (node (frame_node f) ns) = more_are_dead (frame_node f ∷ before) ns

pub left_links_are_dead : LeftLinksAreDead
left_links_are_dead d = more_are_dead _ _ (live_is_document_href d) [] (document_root d).1

pub dead_are_left : DeadAreLeft
dead_are_left d here are =
    ap (λ hrefs. nodes_dead_links hrefs [] (document_root d).1) (fun_ext (all_are_live d here are))

none_of_none : (ls : List DeadLinkView) → All (Contains []) ls → ls ≡ []
none_of_none [] all = refl
none_of_none (l ∷ ls) all = absurd (omega (arith, (All-head (Contains []) l ls all).1))

-- where no link is dead, each that got an `href` is live
module _ (live many : Hrefs) where
  abbrev IsLink : GivenLink → Type 0
  IsLink link = is_some (live link.0) ≡ true

  given_live : (dest : Option ℕ) (h g : Head) → dead_link live (open_dest h dest) h.span ≡ [] →
      All IsLink (given_link dest h g)
  given_live None h g e = All-nil IsLink
  given_live (Some dest) h g e = by (is_open h) e
    where
      is_live : (o : Option (List ℕ)) → dead_without o h.span dest ≡ [] → is_some o ≡ true
      is_live None e = cc
      is_live (Some href) e = refl

      given : (o : Option (List ℕ)) → is_some (live dest) ≡ true → All IsLink (given_by dest o)
      given None some = All-nil IsLink
      given (Some href) some = All-cons IsLink (dest, href) [] some (All-nil IsLink)

      by : (is_link : Bool) → dead_link live (if is_link then Some dest else None) h.span ≡ [] →
          All IsLink (if is_link then given_by dest (first g.attrs (codes "href")) else [])
      by true e = given (first g.attrs (codes "href")) (is_live (live dest) e)
      by false e = All-nil IsLink

  both_none : (as' bs : List DeadLinkView) → as' ++ bs ≡ [] → (as' ≡ []) × (bs ≡ [])
  both_none [] bs e = (refl, e)
  both_none (a ∷ as') bs e = cc

  all_given_live : (before : List NodeView) (ns : NodesView) → nodes_dead_links live before ns ≡ [] →
      All IsLink (nodes_given_links before ns (nodes_with_links many before ns))
  unfolding nodes_dead_links node_dead_links nodes_given_links node_given_links nodes_with_links node_with_links
  all_given_live before none e = All-nil IsLink
  all_given_live before (node (tag_node t) ns) e = all_given_live (tag_node t ∷ before) ns e
  all_given_live before (node (text_node s span) ns) e =
      all_given_live (text_node s span ∷ before) ns e
  all_given_live before (node (element_node h kids) ns) e =
      let apart = both_none _ _ e in
      let here = both_none _ _ apart.0 in
      All-append IsLink _ _ (All-append IsLink _ _ (given_live (dest_before before) h _ here.0)
      (all_given_live [] kids here.1)) (all_given_live (element_node h kids ∷ before) ns apart.1)
  all_given_live before (node (frame_node f) ns) e = all_given_live (frame_node f ∷ before) ns e

-- and leads
abbrev LeadsIfLive : DocumentView → (found : Name → Bool) → GivenLink → Type 0
LeadsIfLive d found link =
    is_some (live_hrefs d link.0) ≡ true → LeadsToFound d.introspector.anchor found link

live_links_lead : (d new : DocumentView) → AnchorsAreTexts d.introspector.anchor →
    new ≡ document_with_links d → LiveLinksLead d new
live_links_lead d new texts is =
    let root = document_root d in
    let hrefs = document_hrefs d in
    let given = nodes_given_links [] root.1 (nodes_with_links hrefs [] root.1) in
    let here : All (LeadsIfLive d (is_found root)) given =
    all_given hrefs (LeadsIfLive d _)
    (given_leads _ (element_places root) _ texts (found_in_tree root)) [] root.1 in
    rw (is, root_has_links d, found_stay hrefs root) here

pub document_live_links_lead : (old : HtmlDocument) (new : DocumentView) →
    new ≡ document_with_links (document_view old) → LiveLinksLead (document_view old) new
document_live_links_lead old new = live_links_lead _ new (texts_in old.introspector.anchors)

all_are_live_links : (d : DocumentView) → document_dead_links d ≡ [] →
    All (λ (link : GivenLink). is_some (live_hrefs d link.0) ≡ true)
    (document_given_links d (document_with_links d))
all_are_live_links d nothing = rw (root_has_links d)
    (all_given_live (live_hrefs d) (document_hrefs d) [] (document_root d).1 nothing)

pub every_link_leads : (d : HtmlDocument) (dead : List DeadLink) →
    dead_links_view dead ≡ document_dead_links (document_view d) → dead ≡ [] →
    EveryLinkLeads (document_view d)
every_link_leads d dead agrees nothing =
    let v = document_view d in
    let new = document_with_links v in
    let none_dead : document_dead_links v ≡ [] = sym agrees ∙ ap dead_links_view nothing in
    record {
      none_left = left_in_document v new refl
          ∙ none_of_none _ (rw none_dead at (left_links_are_dead v));
      found = λ k link within. document_live_links_lead d new refl k link within
          (all_are_live_links v none_dead k link within);
      given = document_links_lead d new refl;
    }
