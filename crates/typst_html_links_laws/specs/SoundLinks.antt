-- The links of a document of items, once they are resolved.
use Rattle.std.specs.Prelude.{◌≡◌, []}
use Rattle.html_dom_document.specs.Documents.{InfoView, DocumentView}
use Rattle.html_anchors.specs.{DistinctIds.{IdsAreDistinct}, GivenLinks.{AnchorsAreTexts, KnownAnchorsArePlaces}}
use Rattle.html_page_findings.specs.{Fragments.{dead_fragments}, Hyperlinks.{ElementHasNoHyperlink}, RepeatedIds.{repeated_ids}}
use Rattle.html_flow_convert.specs.Items.{ItemsView}
use Rattle.typst_html_export.specs.{Exported.{linked_root, resolved_document, resolved_root}, Linked.{linked_document}}
use Rattle.typst_html_links_laws.specs.ItemHyperlinks.{ItemsHaveNoHyperlink}

-- items without hyperlinks make a tree without hyperlinks, with anchors too
abbrev pub NoHyperlinkIsMade : Type 0
NoHyperlinkIsMade = (info : InfoView) (items notes : ItemsView) → ItemsHaveNoHyperlink items →
    ItemsHaveNoHyperlink notes → ElementHasNoHyperlink (linked_root info items notes)

-- once the links of their document are resolved, no fragment is dead if all its anchors are places,
-- and no id is repeated if all names of the tree differ
pub record LinksAreSound (info : InfoView) (items notes : ItemsView) : Type 0 where
  pub dead : ItemsHaveNoHyperlink items → ItemsHaveNoHyperlink notes →
      KnownAnchorsArePlaces (linked_document info items notes) →
      dead_fragments (resolved_root info items notes) ≡ []
  pub repeated : IdsAreDistinct (resolved_document info items notes) →
      repeated_ids (resolved_root info items notes) ≡ []

-- the links of a document are sound if its anchors are texts
abbrev pub ExportedLinksAreSound : Type 0
ExportedLinksAreSound = (info : InfoView) (items notes : ItemsView) →
    AnchorsAreTexts (linked_document info items notes).introspector.anchor →
    LinksAreSound info items notes

-- the links of a document are sound, whatever items it was made from
abbrev pub MadeLinksAreSound : DocumentView → Type 0
MadeLinksAreSound d = (info : InfoView) (items notes : ItemsView) →
    d ≡ linked_document info items notes → LinksAreSound info items notes
