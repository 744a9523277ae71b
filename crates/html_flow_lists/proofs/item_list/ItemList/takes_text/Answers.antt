use Rattle.std.proofs.Common.{ap, refl, sym, ◌∙◌}
use Rattle.html_flow_convert.specs.Views.{pairs_view}
use Rattle.html_flow_lists.{proofs.LastItems.{last_passes_is}, specs.ItemLists.{last_passes, takes_text}}
use Rattle.html_flow_lists.proofs.item_list.ItemList.takes_text.Goals as goal

pub returns-in-Some : goal.returns-in-Some
returns-in-Some c =
    let found = c.in-Some.ensures.item in
    let items = c.deref.result.now in
    let test = takes_text c.args.self.now.span.0 in
    c.takes_text.ensures
    ∙ sym (last_passes_is items _ refl found.3.0 c.in-Some.last.now found.1 test)
    ∙ ap (λ ps. last_passes test (pairs_view ps)) c.deref.ensures.value
