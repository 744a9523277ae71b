use Rattle.std.proofs.Common.{sym}
use Rattle.serde_json.specs.View.{view}
use Rattle.html_flow_convert.specs.Views.{items_view}
use Rattle.typst_html_json.proofs.ItemRows.{refused_items}
use Rattle.typst_html_json.proofs.items.items_by.Goals as goal

pub returns-in-Some : goal.returns-in-Some
returns-in-Some c =
    refused_items c.args.forms (view c.args.value) (items_view c.in_ok-items.items.items) c.new-reader.result
    c.list_of.new.reader c.in-Some.number c.in-Some.span c.new-reader.ensures.mark
    c.new-reader.ensures.refused (sym c.in-Some.ensures) c.in_ok-items.ensures
