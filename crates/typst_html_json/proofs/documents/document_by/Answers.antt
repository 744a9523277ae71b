use Rattle.std.proofs.Common.{sym}
use Rattle.html_dom_tree.specs.Views.{nodes_view}
use Rattle.html_flow_convert.specs.Views.{items_view}
use Rattle.typst_html_json.{proofs.RefusedBodies.{refused_bodies}, specs.Spelling.{document_parts_view}}
use Rattle.typst_html_json.proofs.documents.document_by.Goals as goal

pub returns-in-Some : goal.returns-in-Some
returns-in-Some c =
    refused_bodies (document_parts_view c.args.parts) (items_view c.in_ok-items.items.items)
    (items_view c.in_ok-footnotes.footnotes.items) (nodes_view c.in_ok-head.head.items)
    c.new-reader.result c.list_of.new.reader c.list_of-2.new.reader c.list_of-3.new.reader
    c.in-Some.number c.in-Some.span c.new-reader.ensures.mark c.new-reader.ensures.refused
    (sym c.in-Some.ensures) c.in_ok-items.ensures c.in_ok-footnotes.ensures c.in_ok-head.ensures
