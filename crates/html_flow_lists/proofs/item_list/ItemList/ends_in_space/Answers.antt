use Rattle.std.proofs.Common.{ap, refl, sym, ◌∙◌}
use Rattle.html_flow_convert.specs.Views.{pairs_view}
use Rattle.html_flow_lists.{proofs.LastItems.{last_passes_is}, specs.ItemLists.{item_ends_in_space, last_passes}}
use Rattle.html_flow_lists.proofs.item_list.ItemList.ends_in_space.Goals as goal

pub returns-in-Some : goal.returns-in-Some
returns-in-Some c =
    let found = c.in-Some.ensures.item in
    let items = c.deref.result.now in
    c.item_ends_in_space.ensures
    ∙ sym (last_passes_is items _ refl found.3.0 c.in-Some.last.now found.1 item_ends_in_space)
    ∙ ap (λ ps. last_passes item_ends_in_space (pairs_view ps)) c.deref.ensures.value
