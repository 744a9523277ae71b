use Rattle.std.proofs.Common.{sym, ◌∙◌}
use Rattle.html_flow_lists.{proofs.Cuts.{first_passes_is}, specs.ItemLists.{is_lone_space}}
use Rattle.html_flow_lists.proofs.item_list.starts_with_lone_space.Goals as goal

pub returns-in-Some : goal.returns-in-Some
returns-in-Some c =
    let found = c.in-Some.ensures.item in
    c.is_lone_space.ensures
    ∙ sym (first_passes_is c.args.items.now c.in-Some.first.now found.3.0 found.1 is_lone_space)
