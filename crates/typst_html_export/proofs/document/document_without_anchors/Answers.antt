use Rattle.std.proofs.Common.{map}
use Rattle.html_dom_tree.specs.Views.{node_view, nodes_view}
use Rattle.html_dom_document.specs.Views.{info_view}
use Rattle.html_flow_convert.specs.Views.{items_view}
use Rattle.typst_html_export.{proofs.FaultsInOrder.{around_both}, specs.Assembled.{document_around}}
use Rattle.typst_html_export.proofs.document.document_without_anchors.Goals as goal

pub returns-clause-made : goal.returns-clause-made
returns-clause-made c =
    let info = info_view c.args.info.now in
    let head = map node_view c.args.head.now in
    let notes = items_view c.args.footnotes.now in
    around_both c.args.limit (λ ns. document_around info head ns notes)
    (items_view c.args.items.now) notes (nodes_view c.in_ok-content.content.items)
    c.document_around.result c.in_ok-content.ensures.made c.in_ok-content.ensures.clean
    c.document_around.ensures.made
