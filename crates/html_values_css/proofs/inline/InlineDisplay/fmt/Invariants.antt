use Rattle.std.{proofs.Common.{take}, specs.Fmt.{HasWritten, IsPlainFormatter}}
use Rattle.html_values_css.proofs.Styles.{following_bytes}
use Rattle.html_values_css.proofs.inline.InlineDisplay.fmt.Given as goal

abbrev pub invariant-loop-property : goal.invariant-loop-property
invariant-loop-property g l =
    IsPlainFormatter l.initial.f → HasWritten g.W.Write.write_str_gives l.initial.f
    (following_bytes (take l.property-index l.others)) l.f
