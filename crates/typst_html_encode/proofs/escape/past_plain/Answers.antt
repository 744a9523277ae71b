use Rattle.std.proofs.Common.{◌≡◌, ◌++◌, sym, ap, ◌∙◌}
use Rattle.typst_html_encode.proofs.Stretches.{passes_char, passes_on}
use Rattle.typst_html_encode.proofs.escape.past_plain.Goals as goal
use lib.Utf8.{encode}

pub loop-c-init : goal.loop-c-init
loop-c-init c = record {
  is_text = c.past_passed-rest.utf8;
  at = c.chars-left.ensures.rest;
  passed = c.past_passed-rest.ensures;
}

pub loop-c-preserved : goal.loop-c-preserved
loop-c-preserved c =
    let held = c.loop-c.invariant in
    let escaping = c.args.escaping in
    let text = c.args.text.now in
    let rest = c.loop-c.rest.now in
    let past = c.as_str.result.now in
    let parts : rest ≡ encode c.in-Some.c ++ past =
    sym held.at ∙ (c.in-Some.ensures.steps.0
    ∙ ap (λ l. encode c.in-Some.c ++ l) (sym c.as_str.ensures)) in
    let plain = sym c.is_plain.ensures ∙ c.if-not-is_plain.false in
    record {
      is_text = c.past_passed-rest-in-Some.utf8;
      at = c.chars-left-in-Some.ensures.rest;
      passed = passes_on escaping text past c.past_passed-rest-in-Some.result.now
          (passes_char escaping text rest past c.in-Some.c held.passed parts plain c.as_str.utf8)
          c.past_passed-rest-in-Some.ensures;
    }
