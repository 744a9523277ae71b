use Rattle.std.proofs.Common.{◌≡◌, ◌∙◌, sym, ap, map}
use Rattle.html_dom_tree.specs.Views.{node_view, nodes_view}
use Rattle.html_dom_document.specs.Views.{info_view}
use Rattle.html_flow_convert.specs.Views.{items_view}
use Rattle.typst_html_export.proofs.{Assembling.{no_notes_clean}, Outlines.{own_stands}}
use Rattle.typst_html_export.specs.Assembled.{own_html, own_body, document_outline, document_nodes, outline_faults, output_by}
use Rattle.typst_html_export.specs.Outlines.{outline_view}
use Rattle.typst_html_export.proofs.document.assembled.Goals as goal

pub new-requires : goal.new-requires
new-requires c =
    let content = c.args.content.items in
    let own : own_html c.in-OwnHtml.place ≡ document_outline (nodes_view content) =
    sym (ap outline_view c.in-OwnHtml.is) ∙ (c.in_ok-place.ensures.made
    ∙ ap (λ ns. document_outline (nodes_view ns)) c.deref.ensures.value) in
    own_stands (nodes_view content) c.in-OwnHtml.place own

pub returns-in_ok-refuse_footnotes-in-OwnHtml : goal.returns-in_ok-refuse_footnotes-in-OwnHtml
returns-in_ok-refuse_footnotes-in-OwnHtml c =
    let content = nodes_view c.args.content.items in
    let notes = items_view c.args.footnotes.now in
    let own : own_html c.in-OwnHtml.place ≡ document_outline content =
    sym (ap outline_view c.in-OwnHtml.is) ∙ (c.in_ok-place.ensures.made
    ∙ ap (λ ns. document_outline (nodes_view ns)) c.deref.ensures.value) in
    let value = ap (λ o. output_by o (info_view c.args.info.now)
    (map node_view c.args.head.now) content (document_nodes notes)) own in
    record {
      made = c.new.ensures ∙ value;
      clean = no_notes_clean c.args.limit content notes
          (sym (ap (λ o. outline_faults o notes) own)) c.in_ok-refuse_footnotes-in-OwnHtml.ensures.clean;
      fault = tt;
    }

pub returns-in_ok-html_output-in-OwnBody : goal.returns-in_ok-html_output-in-OwnBody
returns-in_ok-html_output-in-OwnBody c =
    let content = nodes_view c.args.content.items in
    let notes = items_view c.args.footnotes.now in
    let own : own_body ≡ document_outline content =
    sym (ap outline_view c.in-OwnBody.is) ∙ (c.in_ok-place.ensures.made
    ∙ ap (λ ns. document_outline (nodes_view ns)) c.deref.ensures.value) in
    let value = ap (λ o. output_by o (info_view c.args.info.now)
    (map node_view c.args.head.now) content (document_nodes notes)) own in
    record {
      made = c.in_ok-html_output-in-OwnBody.ensures ∙ value;
      clean = no_notes_clean c.args.limit content notes
          (sym (ap (λ o. outline_faults o notes) own)) c.in_ok-refuse_footnotes-in-OwnBody.ensures.clean;
      fault = tt;
    }
