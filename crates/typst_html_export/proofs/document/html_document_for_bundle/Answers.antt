use Rattle.std.proofs.Common.{◌≡◌, Result, Ok, Err, IfOk}
use Rattle.html_dom_document.specs.{Documents.{InfoView}, Views.{document_view, info_view}, declared.document.HtmlDocument.{HtmlDocument}}
use Rattle.html_flow_convert.specs.{Items.{ItemsView}, Views.{items_view}}
use Rattle.typst_html_encode.specs.declared.fault.ExportFault.{ExportFault}
use Rattle.typst_html_export.proofs.SpacesInDocuments.{spaces_are_left_without_anchors}
use Rattle.typst_html_export.specs.{Assembled.{assembled_document}, SpacesInDocuments.{SpacesAreLeft}}
use Rattle.typst_html_export.proofs.document.html_document_for_bundle.Goals as goal

pub returns-clause-made : goal.returns-clause-made
returns-clause-made c = c.document_without_anchors.ensures.made

left : (info : InfoView) (items notes : ItemsView) (r : Result HtmlDocument ExportFault) →
    IfOk r (λ d. document_view d ≡ assembled_document info items notes) →
    IfOk r (λ d. SpacesAreLeft (document_view d) items notes)
left info items notes (Ok d) made = spaces_are_left_without_anchors info items notes _ made
left info items notes (Err e) made = tt

pub returns-clause-spaces : goal.returns-clause-spaces
returns-clause-spaces c =
    left (info_view c.args.info.now) (items_view c.args.items.now) (items_view c.args.footnotes.now)
    c.document_without_anchors.result c.document_without_anchors.ensures.made.made
