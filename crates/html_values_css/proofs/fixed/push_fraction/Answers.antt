use Rattle.std.proofs.Common.{◌≡◌, ◌+◌, ◌/◌, ◌<◌, ◌^◌, ◌-◌, append_assoc, ◌∙◌, encode_utf8, [], ◌∷◌, arith, rules}
use Rattle.html_values_css.proofs.Digits.{fraction_digits-step, power_above, first_digit}
use Rattle.html_values_css.proofs.fixed.push_fraction.Goals as goal

pub loop-left-preserved : goal.loop-left-preserved
loop-left-preserved c =
    let rest = c.loop-left.rest in
    let left = c.loop-left.left in
    let above : 0 < 10 ^ (left - 1) = power_above (left - 1) in
    let digit : rest / c.power_of_ten-unit.result < 10 =
    rw c.power_of_ten-unit.ensures.value (first_digit left rest (omega arith)
    c.loop-left.invariant.below) in
    let byte : c.from.result ≡ 48 + rest / c.power_of_ten-unit.result = search rules in
    let pushed : encode_utf8 c.from.result ≡ c.from.result ∷ [] =
    c.push.ensures.ascii (omega arith) in
    record {
      few = omega arith;
      below = rw c.power_of_ten-unit.ensures.value (omega arith);
      written =
          c.loop-left.invariant.written ∙
          rw (
            fraction_digits-step left rest (omega arith) (omega arith),
            ←
                c.power_of_ten-unit.ensures.value,
            c.in_ok-push.ensures.bytes,
            pushed,
            append_assoc,
            byte,
          );
    }
