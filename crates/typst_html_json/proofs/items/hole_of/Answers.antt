use Rattle.std.proofs.Common.{refl}
use Rattle.html_flow_convert.specs.Views.{item_view}
use Rattle.html_flow_convert.specs.declared.item.Item as Item
use Rattle.typst_html_json.{proofs.ItemForms.{item_view-Hole}, proofs.Readings.{read_clean}, specs.NameRefusals.{item_refusals}}
use Rattle.typst_html_json.proofs.items.hole_of.Goals as goal

pub returns-in-Some : goal.returns-in-Some
unfolding item_refusals
returns-in-Some c =
    read_clean item_refusals (item_view (Item.Hole)) _ c.args.reader.now c.args.reader.now
    (rw (← c.nothing_in.ensures, c.in-Some.is, item_view-Hole) refl)
    (rw item_view-Hole refl) refl
