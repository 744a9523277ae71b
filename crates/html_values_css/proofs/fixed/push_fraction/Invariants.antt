use Rattle.std.proofs.Common.{◌≡◌, ◌++◌, ◌<◌, ◌^◌, string_bytes}
use Rattle.html_values_css.specs.Quantities.{fraction_digits}
use Rattle.html_values_css.proofs.fixed.push_fraction.Given as goal

abbrev pub invariant-loop-left : goal.invariant-loop-left
invariant-loop-left l = record {
  few : l.left < 5;
  below : l.rest < 10 ^ l.left;
  written : string_bytes l.fn.text ++ fraction_digits l.fn.decimals l.fn.rest ≡ string_bytes l.text
      ++ fraction_digits l.left l.rest;
}

abbrev pub decreases-loop-left : goal.decreases-loop-left
decreases-loop-left l = l.left
