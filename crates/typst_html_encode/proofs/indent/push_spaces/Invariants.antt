use Rattle.std.proofs.Common.{◌≡◌, ◌++◌}
use Rattle.typst_html_encode.specs.Layout.{spaces}
use Rattle.typst_html_encode.proofs.indent.push_spaces.Given as goal

abbrev pub invariant-loop-left : goal.invariant-loop-left
invariant-loop-left l = l.out ++ spaces l.left ≡ l.initial.out ++ spaces l.level

abbrev pub decreases-loop-left : goal.decreases-loop-left
decreases-loop-left l = l.left
