use Rattle.std.proofs.Common.{◌≡◌, ◌∙◌, ap, map}
use Rattle.html_dom_tree.specs.Views.{node_view, nodes_view}
use Rattle.html_dom_document.specs.{Documents.{new_document}, Views.{info_view, output_view}}
use Rattle.html_flow_convert.specs.Views.{items_view}
use Rattle.typst_html_export.proofs.Assembling.{assembled_styled}
use Rattle.typst_html_export.specs.{Assembled.{document_nodes, output_around}, Roots.{styled_root}}
use Rattle.typst_html_export.proofs.document.document_around.Goals as goal

pub returns-clause-made : goal.returns-clause-made
returns-clause-made c =
    let info = info_view c.args.info.now in
    let head = map node_view c.args.head.now in
    let content = nodes_view c.args.content.items in
    let notes = items_view c.args.footnotes.now in
    let around = output_around info head content notes in
    let styled : output_view c.in_ok-output-2.output ≡ around = c.in_ok-output-2.ensures
    ∙ (ap styled_root c.in_ok-output.ensures.made
    ∙ assembled_styled info head content (document_nodes notes)) in
    record {
      made = c.in_ok-new.ensures.ok
          ∙ (ap (λ o. new_document o (info_view c.in_ok-try_clone.field-0)) styled
          ∙ ap (λ i. new_document around i) c.in_ok-try_clone.ensures);
      clean = c.in_ok-output.ensures.clean;
      fault = tt;
    }
