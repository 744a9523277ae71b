use Rattle.std.proofs.Common.{refl}
use Rattle.html_flow_convert.specs.Views.{item_view}
use Rattle.html_flow_convert.specs.declared.item.Item as Item
use Rattle.typst_html_json.{proofs.ItemForms.{item_view-LineBreak}, proofs.Readings.{read_clean}, specs.NameRefusals.{item_refusals}}
use Rattle.typst_html_json.proofs.items.break_of.Goals as goal

pub returns-in-Some : goal.returns-in-Some
unfolding item_refusals
returns-in-Some c =
    read_clean item_refusals (item_view (Item.LineBreak c.here.result)) _ c.args.reader.now c.args.reader.now
    (rw (← c.nothing_in.ensures, c.in-Some.is, item_view-LineBreak, c.here.ensures) refl)
    (rw item_view-LineBreak refl) refl
