use Rattle.std.proofs.Common.{refl}
use Rattle.html_flow_lists.{proofs.LastItems.{changed_is}, specs.ItemLists.{with_cut_text, without_last}}
use Rattle.html_flow_lists.proofs.item_list.cut_last_end.Goals as goal

pub returns-in-Some : goal.returns-in-Some
returns-in-Some c =
    let found = c.in-Some.ensures.item in
    changed_is c.args.items.now _ refl found.3.0 c.in-Some.last.now found.1
    (with_cut_text without_last) c.cut_end.new.pair c.cut_end.ensures
