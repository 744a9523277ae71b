use Rattle.std.proofs.Common.{◌≡◌, ℕ, List, ◌++◌, length, reverse}
use Rattle.html_page_stack.specs.Pages.{names_behind}
use Rattle.html_page_stack.proofs.page.last_named.Given as goal

abbrev pub invariant-loop-last : goal.invariant-loop-last
invariant-loop-last l = (back : List (List ℕ)) × record {
  whole : l.names ≡ l.outer ++ back;
  same : names_behind (reverse l.names) l.among l.name
      ≡ names_behind (reverse l.outer) l.left l.name;
}

abbrev pub decreases-loop-last : goal.decreases-loop-last
decreases-loop-last l = length l.outer
