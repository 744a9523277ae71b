use Rattle.std.proofs.Common.{◌≡◌}
use Rattle.html_clean_values.specs.Replaced.{replaced}
use Rattle.html_clean_values.proofs.texts.replaced.Given as goal

abbrev pub invariant-loop-c : goal.invariant-loop-c
invariant-loop-c l = l.made ≡ replaced l.yielded
