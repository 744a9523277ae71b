-- Once the links of such a document are resolved, each link in it leads.
use Rattle.std.proofs.Common.{subst, ◌∙◌}
use Rattle.html_dom_document.specs.{Documents.{DocumentView}, Views.{document_view}, declared.document.HtmlDocument.{HtmlDocument}}
use Rattle.html_anchors.{proofs.GivenLinks.{texts_in}, specs.GivenLinks.{AnchorsAreTexts}}
use Rattle.html_page_findings.proofs.{DistinctIds.{distinct_are_not_repeated}, Hyperlinks.{no_hyperlink_no_dead_fragment}}
use Rattle.typst_html_links_laws.proofs.{LinkedChecks.{resolved_stay_sound}, MadeDocuments.{no_hyperlink_is_made}}
use Rattle.typst_html_links_laws.specs.SoundLinks.{ExportedLinksAreSound, MadeLinksAreSound}
use Rattle.typst_html_export.specs.{Exported.{linked_root, resolved_root}, Linked.{linked_document}}

pub exported_links_are_sound : ExportedLinksAreSound
exported_links_are_sound info items notes texts =
    let d : DocumentView = linked_document info items notes in
    record {
      dead = λ free more known. (resolved_stay_sound d texts).dead known
          ∙ no_hyperlink_no_dead_fragment (linked_root info items notes)
          (no_hyperlink_is_made info items notes free more);
      repeated = distinct_are_not_repeated (resolved_root info items notes);
    }

-- the anchors of a document that a program holds are texts
pub made_links_are_sound : (d : HtmlDocument) → MadeLinksAreSound (document_view d)
made_links_are_sound d info items notes is =
    exported_links_are_sound info items notes
    (subst (λ (v : DocumentView). AnchorsAreTexts v.introspector.anchor) is
    (texts_in d.introspector.anchors))
