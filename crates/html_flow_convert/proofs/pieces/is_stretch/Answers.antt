use Rattle.std.{proofs.Common.{◌≡◌, ◌++◌, sym, ◌∙◌}, specs.Str.Iter.{chars_rest}}
use Rattle.html_flow_convert.proofs.{Passing.{stretch_left}, Stretching.{stretch_goes_on, stretch_ends}}
use Rattle.html_flow_convert.proofs.pieces.is_stretch.Goals as goal
use lib.Utf8.{encode}

pub loop-c-init : goal.loop-c-init
loop-c-init c = record {
  utf8 = rw c.chars-left.ensures.rest c.past_words.utf8;
  agrees = rw c.chars-left.ensures.rest (stretch_left c.past_words.ensures.passed);
}

pub loop-c-preserved : goal.loop-c-preserved
loop-c-preserved c =
    let later = c.as_str.result.now in
    let parts : chars_rest c.loop-c.left ≡ encode c.in-Some.c ++ later =
    rw c.as_str.ensures c.in-Some.ensures.steps.0 in
    let on = stretch_goes_on c.loop-c.ends_normal _ later c.in-Some.c c.loop-c.invariant.utf8 parts
    c.is_normal-is_normal.ensures (sym c.goes_on.ensures ∙ c.if-not-goes_on.false)
    c.loop-c.invariant.agrees in
    record {
      utf8 = rw c.chars-left-in-Some.ensures.rest c.past_words-in-Some.utf8;
      agrees = rw c.chars-left-in-Some.ensures.rest
          (stretch_left c.past_words-in-Some.ensures.passed ∙ on);
    }

pub returns : goal.returns
returns c =
    stretch_ends c.loop-c.ends_normal (chars_rest c.loop-c.left) c.args.text.now
    c.in_default.ensures.steps.0.0 c.loop-c.invariant.agrees
