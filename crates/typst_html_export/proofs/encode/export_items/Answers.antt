use Rattle.html_dom_document.specs.Views.{document_view}
use Rattle.html_flow_convert.specs.Views.{items_view}
use Rattle.typst_html_export.proofs.FaultsInOrder.{exported}
use Rattle.typst_html_export.proofs.encode.export_items.Goals as goal

pub returns : goal.returns
returns g c =
    let made = c.in_ok-document.ensures in
    exported (g.F.FrameWriter.drawing c.args.frames.now) c.args.options.now c.args.limit
    (items_view c.args.items.items) (items_view c.args.footnotes.now)
    (document_view c.in_ok-document.document) _ c.html_of_made.result made.made made.clean
    c.html_of_made.ensures.makes
