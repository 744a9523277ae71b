use Rattle.std.proofs.Common.{◌≡◌, drop, map}
use Rattle.html_page_stack.specs.{Copies.{copies_size, spent}, PageViews.{format_of}}
use Rattle.html_page_stack.proofs.formats.spend_all.Given as goal

abbrev pub invariant-loop-entry : goal.invariant-loop-entry
invariant-loop-entry l = spent l.left (copies_size (map format_of (drop l.entry-index l.entries)))
    ≡ spent l.fn.spare (copies_size (map format_of l.entries))
