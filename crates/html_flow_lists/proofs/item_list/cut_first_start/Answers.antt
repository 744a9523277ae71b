use Rattle.html_flow_lists.{proofs.Cuts.{first_changed_is}, specs.ItemLists.{with_cut_text, without_first}}
use Rattle.html_flow_lists.proofs.item_list.cut_first_start.Goals as goal

pub returns-in-Some : goal.returns-in-Some
returns-in-Some c =
    let found = c.in-Some.ensures.item in
    first_changed_is c.args.items.now c.in-Some.first.now found.3.0 found.1
    (with_cut_text without_first) c.cut_start.new.pair c.cut_start.ensures
