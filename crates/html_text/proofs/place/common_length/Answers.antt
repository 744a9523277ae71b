use Rattle.std.proofs.{Common.{◌≡◌, ◌+◌, false, true, chars, eqb, refl, sym, arith}, StrCases.{chars_of_empty}}
use Rattle.std.{proofs.lemmas.Bool.{ne_eqb, eq-eqb}, proofs.lemmas.Str.{IsUtf8-past_char, chars_past_char}, specs.List.{common_prefix_len}}
use Rattle.std.specs.Str.Iter.{chars_rest}
use Rattle.html_text.proofs.Places.{first_long}
use Rattle.html_text.proofs.place.common_length.Goals as goal

pub returns-in_default : goal.returns-in_default
returns-in_default c =
    let held = c.loop-expected.invariant in
    let word = chars_past_char _ _ c.in-Some.expected held.word_utf8 c.in-Some.ensures.steps.0 in
    let text = chars_of_empty _ c.in_default.ensures.steps.0.0 in
    let same = rw (word, text) at held.same in
    omega (arith, same)

pub returns-then-c-expected : goal.returns-then-c-expected
returns-then-c-expected c =
    let held = c.loop-expected.invariant in
    let word = chars_past_char _ _ c.in-Some.expected held.word_utf8 c.in-Some.ensures.steps.0 in
    let text = chars_past_char _ _ c.in-Some-next.c held.text_utf8 c.in-Some-next.ensures.steps.0 in
    let other : eqb c.in-Some.expected c.in-Some-next.c ≡ false =
    ne_eqb _ _ (λ e. c.if-c-expected.true (sym e)) in
    let same = rw (word, text, other) at held.same in
    omega (arith, same)

pub loop-expected-preserved : goal.loop-expected-preserved
loop-expected-preserved c =
    let held = c.loop-expected.invariant in
    let d = c.in-Some-next.c in
    let word = chars_past_char _ _ c.in-Some.expected held.word_utf8 c.in-Some.ensures.steps.0 in
    let text = chars_past_char _ _ d held.text_utf8 c.in-Some-next.ensures.steps.0 in
    let long = first_long _ _ d c.in-Some-next.ensures.steps.0 in
    let equal : eqb c.in-Some.expected d ≡ true = eq-eqb _ _ (sym c.if-c-expected.false) in
    let rest = common_prefix_len eqb (chars (chars_rest c.next.new.self))
    (chars (chars_rest c.next-in-loop-expected.new.self)) in
    let one : common_prefix_len eqb (chars (chars_rest c.loop-expected.expected-iterator))
    (chars (chars_rest c.loop-expected.left)) ≡ 1 + rest = rw (word, text, equal) refl in
    record {
      word_utf8 = IsUtf8-past_char _ _ c.in-Some.expected held.word_utf8 c.in-Some.ensures.steps.0;
      text_utf8 = IsUtf8-past_char _ _ d held.text_utf8 c.in-Some-next.ensures.steps.0;
      same = omega (arith, one, held.same);
      few = omega (arith, held.few, long.0, long.1);
    }

pub returns : goal.returns
returns c =
    let held = c.loop-expected.invariant in
    let word = chars_of_empty _ c.in-None.ensures.steps.0.0 in
    let same = rw word at held.same in
    omega (arith, same)
