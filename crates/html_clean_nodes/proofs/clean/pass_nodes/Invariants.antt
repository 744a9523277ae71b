use Rattle.std.proofs.Common.{◌≡◌}
use Rattle.html_dom_tree.specs.Views.{nodes_view}
use Rattle.html_dom_walk.specs.Walks.{events_left, visits_left}
use Rattle.html_clean_policy.specs.PolicyViews.{policy_view}
use Rattle.html_clean_nodes.{proofs.PastEvents.{past_events}, specs.Cleaning.{cleaned_behind, cleaning_view}}
use Rattle.html_clean_nodes.proofs.clean.pass_nodes.Given as goal

abbrev pub invariant-loop-walk : goal.invariant-loop-walk
invariant-loop-walk l =
    let p = policy_view l.policy in
    past_events p (cleaning_view l.cleaner) (events_left l.walk)
    ≡ cleaned_behind p (cleaning_view l.fn.cleaner) (nodes_view l.nodes)

abbrev pub decreases-loop-walk : goal.decreases-loop-walk
decreases-loop-walk l = visits_left l.walk
