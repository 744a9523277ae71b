use Rattle.std.proofs.{Common.{ap, sym, ◌∙◌, ◌==◌}, lemmas.List.{length-map}}
use Rattle.html_flow_convert.specs.Views.{pair_view}
use Rattle.html_flow_lists.proofs.item_list.ItemList.has_none.Goals as goal

pub returns : goal.returns
returns c =
    let held = c.args.self.now.items in
    c.is_empty.ensures ∙ ap (λ n. n == 0) (held.ok.0 ∙ sym (length-map held.items pair_view))
