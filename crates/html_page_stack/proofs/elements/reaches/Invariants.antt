use Rattle.std.proofs.Common.{◌≡◌, length}
use Rattle.html_page_stack.specs.{Contexts.{AreKnown}, OpenElements.{reaches}, PageViews.{bound_test, goal_test, list_of}}
use Rattle.html_page_stack.proofs.elements.reaches.Given as goal

abbrev pub invariant-loop-element : goal.invariant-loop-element
invariant-loop-element l = record {
  same : reaches (goal_test l.goal) (bound_test l.bound) (list_of l.outer)
      ≡ reaches (goal_test l.goal) (bound_test l.bound) (list_of l.elements);
  known : AreKnown l.outer;
}

abbrev pub decreases-loop-element : goal.decreases-loop-element
decreases-loop-element l = length l.outer
