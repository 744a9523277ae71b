use Rattle.std.proofs.Common.{true, ap, sym, ◌∙◌}
use Rattle.html_dom_tree.specs.Views.{nodes_view}
use Rattle.html_dom_walk.specs.Walks.{event_of, events_left, path_of}
use Rattle.html_clean_policy.specs.PolicyViews.{policy_view}
use Rattle.html_clean_nodes.{proofs.PastEvents.{events_are, past_events, turn_past}, specs.Cleaning.{cleaning_view}}
use Rattle.html_clean_nodes.proofs.clean.pass_nodes.Goals as goal

pub loop-walk-init : goal.loop-walk-init
loop-walk-init c =
    let p = policy_view c.args.policy.now in
    let first = cleaning_view c.args.cleaner.now in
    ap (past_events p first) c.over-walk.ensures.events
    ∙ events_are p first (nodes_view c.args.nodes.now)

pub loop-walk-preserved-then-branch : goal.loop-walk-preserved-then-branch
loop-walk-preserved-then-branch c =
    let walk = c.next.new.self in
    turn_past (policy_view c.args.policy.now) (cleaning_view c.loop-walk.cleaner)
    (cleaning_view c.pass.new.self) (events_left c.loop-walk.walk) (events_left c.skip.new.self)
    (events_left walk) (path_of walk) (event_of c.in-Some.visit) true
    (rw c.in-Some.is at c.in_ok-visit.ensures.comes) c.in_ok-pass.ensures.past
    (sym c.if-branch.true ∙ c.in_ok-pass.ensures.skips) c.skip.ensures.left
    ∙ c.loop-walk.invariant
