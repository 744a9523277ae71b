use Rattle.std.proofs.Common.{◌≡◌, true}
use Rattle.html_flow_convert.specs.Views.{pairs_view}
use Rattle.html_flow_lists.{proofs.Cuts.{space_popped}, specs.ItemLists.{is_lone_space, last_passes}}
use Rattle.html_flow_lists.proofs.item_list.drop_end_space.Goals as goal

pub returns-then-ends_in_lone_space-clause-same : goal.returns-then-ends_in_lone_space-clause-same
returns-then-ends_in_lone_space-clause-same c =
    let held = c.args.items.now in
    let ended : last_passes is_lone_space (pairs_view held.items) ≡ true = cc in
    space_popped held.items c.pop.new.self.items held.len held.ok.0 c.pop.ensures.rest ended
