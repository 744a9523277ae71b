use Rattle.std.proofs.Common.{◌≡◌, ◌++◌, List, [], map, sym, ap, ◌∙◌, subst}
use Rattle.html_dom_document.specs.Documents.{DocumentView, document_root}
use Rattle.html_dom_tree.specs.{Tree.{NodeView}, Views.{node_view, text_view}}
use Rattle.html_flow_convert.specs.LoneNode.{node_list}
use Rattle.typst_html_encode.specs.FrameWriters.{no_frames}
use Rattle.typst_html_encode.specs.Text as html
use Rattle.typst_html_export.specs.{Assembled.{items_document_faults}, Assembles.{GivesDocument}, Exported.{root_faults}}
use Rattle.typst_html_export.specs.Linked.{linked_document, linked_document_with_head}
use Rattle.typst_html_run.proofs.Heads.{head_list, no_nodes}
use Rattle.typst_html_json.specs.Spelling.{spelling_view}
use Rattle.typst_html_run.proofs.documents.unlinked.Goals as goal

pub returns-then-has_nodes : goal.returns-then-has_nodes
returns-then-has_nodes c =
    let s = spelling_view c.args.document in
    let Given : DocumentView → Type 0 = λ d. GivesDocument text_view c.export_with_head.result
    (html.document_text no_frames c.args.options.now (document_root d))
    (items_document_faults c.args.limit s.items s.footnotes
    ++ root_faults no_frames c.args.options.now (document_root d)) in
    let with_nodes : List NodeView → DocumentView =
    λ nodes. linked_document_with_head s.info nodes s.items s.footnotes in
    let made : Given (with_nodes (map node_view c.args.document.head.items)) =
    rw (
      ← c.deref-then-has_nodes.ensures.value,
      ← c.deref-then-has_nodes-2.ensures.value,
      ← c.deref-then-has_nodes-3.ensures.value,
    ) c.export_with_head.ensures.makes in
    subst Given (ap with_nodes (sym (head_list c.args.document.head.items))) made

pub returns : goal.returns
returns c =
    let s = spelling_view c.args.document in
    let Given : DocumentView → Type 0 = λ d. GivesDocument text_view c.export_items.result
    (html.document_text no_frames c.args.options.now (document_root d))
    (items_document_faults c.args.limit s.items s.footnotes
    ++ root_faults no_frames c.args.options.now (document_root d)) in
    let with_nodes : List NodeView → DocumentView =
    λ nodes. linked_document_with_head s.info nodes s.items s.footnotes in
    let made : Given (linked_document s.info s.items s.footnotes) =
    rw (← c.deref-2.ensures.value) c.export_items.ensures in
    let none : node_list s.head ≡ [] =
    rw (← c.deref.ensures.value)
    (no_nodes c.deref.result.now (sym c.has_nodes.ensures ∙ c.if-has_nodes.false)) in
    subst Given (sym (ap with_nodes none)) made
