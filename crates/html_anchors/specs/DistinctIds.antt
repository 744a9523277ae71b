-- Documents whose ids differ (HTML Standard 3.2.6: an `id` is unique in its tree), and laws that
-- they still do once the tree has anchors and links.
use Rattle.std.specs.Prelude.{◌≡◌, true, List, All}
use Rattle.html_dom_tree.specs.Tree.{ElementView}
use Rattle.html_dom_document.specs.Documents.{DocumentView, document_root}
use Rattle.html_anchors.specs.{Anchors.{element_with_anchors}, Events.{Targets}, Fresh.{MadeAreNew}}
use Rattle.html_anchors.specs.{GivenLinks.{GivenLink, LeadsAmong, document_given_links}, Links.{Anchors, Hrefs, root_with_links}}
use Rattle.html_links.specs.{Distinct.{are_distinct, occurrences}, Indicated.{element_places}, TreeNames.{shown_names, Name, element_names}}

-- no two of the values of `id`, the ids of frames and the anchors of frames are the same
abbrev pub IdsAreDistinct : DocumentView → Type 0
IdsAreDistinct d = are_distinct (element_names (document_root d)) ≡ true

-- a link leads to a name that occurs once among all
pub record LeadsToOne (anchor : Anchors) (places shown names : List Name) (link : GivenLink) : Type 0
  where
    pub among : LeadsAmong anchor places shown link
    pub once : occurrences names among.name ≡ 1

-- each link that got an `href` leads to such a name of the new tree
abbrev pub GivenLinksLeadToOne : (old new : DocumentView) → Type 0
GivenLinksLeadToOne old new = let root = document_root new in
    All (LeadsToOne new.introspector.anchor (element_places root) (shown_names root.1)
    (element_names root)) (document_given_links old new)

-- a tree with distinct names has distinct names with anchors too, if the added ones are new
abbrev pub AnchorsStayDistinct : Type 0
AnchorsStayDistinct = (x : Targets) (e : ElementView) → MadeAreNew x e →
    are_distinct (element_names e) ≡ true →
    are_distinct (element_names (element_with_anchors x e)) ≡ true

-- links change none of these names
abbrev pub AllNamesStay : Type 0
AllNamesStay = (hrefs : Hrefs) (e : ElementView) →
    element_names (root_with_links hrefs e) ≡ element_names e
