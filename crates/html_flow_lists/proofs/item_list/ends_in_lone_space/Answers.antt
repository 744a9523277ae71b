use Rattle.std.proofs.Common.{refl, sym, ◌∙◌}
use Rattle.html_flow_lists.{proofs.LastItems.{last_passes_is}, specs.ItemLists.{is_lone_space}}
use Rattle.html_flow_lists.proofs.item_list.ends_in_lone_space.Goals as goal

pub returns-in-Some : goal.returns-in-Some
returns-in-Some c =
    let found = c.in-Some.ensures.item in
    c.is_lone_space.ensures
    ∙ sym (last_passes_is c.args.items.now _ refl found.3.0 c.in-Some.last.now found.1 is_lone_space)
