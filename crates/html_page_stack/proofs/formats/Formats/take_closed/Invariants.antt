use Rattle.std.proofs.Common.{◌≡◌, ◌++◌, map, vec_len}
use Rattle.html_page_stack.specs.{Formats.{before_closed, closed_entries}, PageViews.{format_of, formats_of, stack_of}}
use Rattle.html_page_stack.proofs.formats.Formats.take_closed.Given as goal

abbrev pub invariant-loop-self : goal.invariant-loop-self
invariant-loop-self l = record {
  taken : map format_of l.taken.items ++ closed_entries (stack_of l.stack) (formats_of l.self)
      ≡ closed_entries (stack_of l.stack) (formats_of l.fn.self);
  left : before_closed (stack_of l.stack) (formats_of l.self)
      ≡ before_closed (stack_of l.stack) (formats_of l.fn.self);
}

abbrev pub decreases-loop-self : goal.decreases-loop-self
decreases-loop-self l = vec_len l.self.entries
