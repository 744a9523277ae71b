use Rattle.html_flow_lists.{proofs.Cuts.{spaced}, specs.ListViews.{list_view}}
use Rattle.html_flow_lists.proofs.item_list.ItemList.space.Goals as goal

pub returns-clause-ok : goal.returns-clause-ok
returns-clause-ok c =
    spaced (list_view c.args.self.now) _ _ _ _ c.takes_no_space.ensures c.if-takes_no_space.false
    c.has_none-is_first.ensures c.in_ok-add_space.ensures.ok c.note_space.ensures
