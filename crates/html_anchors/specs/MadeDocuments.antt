-- The documents that calls return which add anchors, or an `href` to links.
use Rattle.std.specs.Prelude.{◌≡◌, ℕ, Bool}
use Rattle.html_dom_document.specs.Documents.{DocumentView, document_root, with_root}
use Rattle.html_dom_tree.specs.Tree.{NodesView}
use Rattle.html_anchors.specs.{DistinctIds.{GivenLinksLeadToOne, IdsAreDistinct}, DocumentNames.{AnchorsAreNew, AnchorsAreShown}}
use Rattle.html_anchors.specs.{FoundAnchors.{LiveLinksLead}, GivenLinks.{GivenLinksLead, KnownAnchorsAreShown, links_without}}
use Rattle.html_anchors.specs.LinkAnchors.{document_anchor, document_with_new_anchors}
use Rattle.html_anchors.specs.{Links.{Anchors, document_links_left, document_with_links}, Serving.{AreServing, KnownAnchorsServe}}

-- a document whose root has these children
abbrev pub with_children : NodesView → DocumentView → DocumentView
with_children ns d = record d { output = with_root d.output ((document_root d).0, ns) }

-- the new document has anchors for these locations, and these are their names
pub record HasNewAnchors (is_target : ℕ → Bool) (old new : DocumentView) (anchor : Anchors) : Type 0
  where
    pub tree : new ≡ document_with_new_anchors is_target old
    pub anchors : anchor ≡ document_anchor is_target old
    pub fresh : AnchorsAreNew is_target old
    pub shown : AnchorsAreShown anchor new
    pub serves : AreServing is_target anchor new
    pub distinct : IdsAreDistinct old → IdsAreDistinct new

-- the links of the new document lead
pub record HasItsLinks (old new : DocumentView) : Type 0 where
  pub ok : new ≡ document_with_links old
  pub live : LiveLinksLead old new
  pub leads : KnownAnchorsAreShown old → GivenLinksLead old new
  pub left : links_without (document_root new).1 ≡ document_links_left old
  pub serves : KnownAnchorsServe old → KnownAnchorsServe new
  pub distinct : IdsAreDistinct old → IdsAreDistinct new
  pub one : KnownAnchorsAreShown old → IdsAreDistinct old → GivenLinksLeadToOne old new
