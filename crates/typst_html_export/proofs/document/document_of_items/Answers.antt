use Rattle.std.proofs.Common.{◌∙◌, [], ap, Ok}
use Rattle.html_dom_tree.specs.Views.{nodes_view}
use Rattle.html_dom_document.specs.Views.{info_view}
use Rattle.html_flow_convert.specs.Views.{items_view}
use Rattle.typst_html_export.{proofs.FaultsInOrder.{around_both}, specs.Assembled.{document_around}, specs.Linked.{document_with_anchors}}
use Rattle.typst_html_export.proofs.document.document_of_items.Goals as goal

pub returns : goal.returns
returns c =
    let info = info_view c.args.info.now in
    let items = items_view c.args.items.items in
    let notes = items_view c.args.footnotes.now in
    let around = around_both c.args.limit (λ ns. document_around info [] ns notes)
    items notes (nodes_view c.in_ok-content.content.items) (Ok c.in_ok-document.document)
    c.in_ok-content.ensures.made c.in_ok-content.ensures.clean c.in_ok-document.ensures.made in
    record {
      made = c.in_ok-with_anchors.ensures.made ∙ ap document_with_anchors around.made;
      clean = around.clean;
      fault = tt;
    }
