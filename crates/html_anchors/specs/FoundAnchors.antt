-- The places that a browser finds from links to their names, and the links that are dead without
-- them: a `base` elsewhere leads each fragment away (HTML Standard 4.2.3), and what a `template`
-- contains is not in the document (4.12.3).
use Rattle.std.specs.{Option.{option_and_then}, Prelude.{◌≡◌, Bool, true, false, List, [], All, Some, is_some, if◌then◌else◌}}
use Rattle.html_names_core.specs.Names.{stands_in}
use Rattle.html_dom_tree.specs.Tree.{ElementView}
use Rattle.html_dom_document.specs.Documents.{DocumentView, document_root}
use Rattle.html_links.specs.{Bases.{base_is_elsewhere}, InDocument.{document_places}, Indicated.{LeadsTo, element_places, if_place}}
use Rattle.html_links.specs.TreeNames.{Name}
use Rattle.html_anchors.specs.GivenLinks.{GivenLink, KnownAnchorsAreShown, GivenLinksLead, document_given_links, links_without}
use Rattle.html_anchors.specs.Links.{Anchors, DeadLinkView, Hrefs, anchor_hrefs, document_with_links, nodes_dead_links}

-- whether a browser finds a place of that name from a link to the name on the same page
abbrev pub is_found : ElementView → Name → Bool
is_found e = if base_is_elsewhere e then (λ name. false) else stands_in (document_places e)

-- the anchors whose names are those of places
abbrev pub anchors_found : (is_place : Name → Bool) → Anchors → Anchors
anchors_found is_place anchor = λ location. option_and_then (if_place is_place) (anchor location)

-- the `href` of each location in a document, if a browser finds the anchor of that location; its
-- spelling is chosen among the names of the whole tree
abbrev pub live_hrefs : DocumentView → Hrefs
live_hrefs d = let root = document_root d in
    anchor_hrefs (stands_in (element_places root)) (anchors_found (is_found root) d.introspector.anchor)

-- the dead links of a document: those to whose destination no `href` leads in a browser
abbrev pub document_dead_links : DocumentView → List DeadLinkView
document_dead_links d = nodes_dead_links (live_hrefs d) [] (document_root d).1

-- a link leads to the anchor of its destination among these places
pub record LeadsToFound (anchor : Anchors) (is_place : Name → Bool) (link : GivenLink) : Type 0 where
  pub name : Name
  pub leads : LeadsTo is_place link.1 name
  pub is_anchor : anchor link.0 ≡ Some name

-- in the new document a link leads to a place that a browser finds
abbrev pub LeadsIn : (new : DocumentView) → GivenLink → Type 0
LeadsIn new = LeadsToFound new.introspector.anchor (is_found (document_root new))

-- each link that got an `href` leads a browser, unless it was dead
abbrev pub LiveLinksLead : (old new : DocumentView) → Type 0
LiveLinksLead old new =
    All (λ link. is_some (live_hrefs old link.0) ≡ true → LeadsIn new link)
    (document_given_links old new)

-- once links are resolved, none behind a start tag with a destination is without an `href`, and
-- each that got one leads a browser; where the known anchors stand in the tree, to a name in it
pub record EveryLinkLeads (d : DocumentView) : Type 0 where
  pub none_left : links_without (document_root (document_with_links d)).1 ≡ []
  pub found : All (LeadsIn (document_with_links d)) (document_given_links d (document_with_links d))
  pub given : KnownAnchorsAreShown d → GivenLinksLead d (document_with_links d)
