use Rattle.std.proofs.{Common.{[], ◌∷◌, ap, refl, ◌∙◌}, lemmas.Result.{on_ok_weaker}}
use Rattle.html_names_core.proofs.Lists.{chars_ascii}
use Rattle.html_flow_lists.specs.{ItemLists.{with_text}, ListViews.{list_view}}
use Rattle.html_flow_lists.proofs.item_list.ItemList.add_space.Goals as goal

pub returns-clause-ok : goal.returns-clause-ok
returns-clause-ok c =
    on_ok_weaker c.text.result
    (λ e. e ∙ ap (λ t. with_text t (list_view c.args.self.now)) (chars_ascii (32 ∷ []) refl))
    c.text.ensures.ok
