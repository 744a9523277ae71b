-- Laws of the dead fragments and the repeated ids of a tree whose links are given an `href`.
use Rattle.std.specs.Prelude.{◌≡◌, ℕ, List, [], Some}
use Rattle.html_names_core.specs.Names.{stands_in}
use Rattle.html_dom_tree.specs.Tree.{ElementView}
use Rattle.html_dom_document.specs.Documents.{DocumentView, document_root}
use Rattle.html_anchors.specs.{DistinctIds.{IdsAreDistinct}, GivenLinks.{AnchorsAreTexts, KnownAnchorsArePlaces}}
use Rattle.html_anchors.specs.Links.{Hrefs, document_with_links, root_with_links}
use Rattle.html_links.specs.{InDocument.{document_places}, Indicated.{LeadsTo}, TreeNames.{Name}}
use Rattle.html_page_findings.specs.{Fragments.{dead_fragments}, RepeatedIds.{repeated_ids}}

-- each `href` leads to a name in the document
abbrev pub HrefsLead : Hrefs → ElementView → Type 0
HrefsLead hrefs e = (location : ℕ) (href : List ℕ) → hrefs location ≡ Some href →
    (name : Name) × LeadsTo (stands_in (document_places e)) href name

-- links that get an `href` add no dead fragment: those of the new tree are those of the old one
abbrev pub LinksAddNoDeadFragment : Type 0
LinksAddNoDeadFragment = (hrefs : Hrefs) (e : ElementView) → HrefsLead hrefs e →
    dead_fragments (root_with_links hrefs e) ≡ dead_fragments e

-- links that get an `href` repeat no id: those of the new tree are those of the old one
abbrev pub LinksRepeatNoId : Type 0
LinksRepeatNoId = (hrefs : Hrefs) (e : ElementView) →
    repeated_ids (root_with_links hrefs e) ≡ repeated_ids e

-- once the links of a document are resolved, its dead fragments are those that it had, if the known
-- anchors are places; its repeated ids are those that it had, and there are none if all ids differ
pub record LinksStaySound (d : DocumentView) : Type 0 where
  pub dead : KnownAnchorsArePlaces d →
      dead_fragments (document_root (document_with_links d)) ≡ dead_fragments (document_root d)
  pub repeated :
      repeated_ids (document_root (document_with_links d)) ≡ repeated_ids (document_root d)
  pub distinct : IdsAreDistinct d → repeated_ids (document_root (document_with_links d)) ≡ []

-- the links of each document whose anchors are texts stay sound
abbrev pub ResolvedStaySound : Type 0
ResolvedStaySound = (d : DocumentView) → AnchorsAreTexts d.introspector.anchor → LinksStaySound d
