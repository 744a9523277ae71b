use Rattle.std.proofs.{Common.{◌≡◌, eqb, false, true, sym, ◌∙◌, rules}, StrCases.{chars_of_empty}}
use Rattle.std.{proofs.lemmas.Bool.{ne_eqb, eq-eqb}, proofs.lemmas.Str.{IsUtf8-past_char, chars_past_char}, specs.Char.{to_ascii_lowercase}}
use Rattle.html_links.specs.Scripts.{begins}
use Rattle.html_links.proofs.scripts.begins.Goals as goal

pub returns-in_default : goal.returns-in_default
unfolding begins
returns-in_default c =
    let held = c.loop-expected.invariant in
    let small = chars_past_char _ _ c.in-Some.expected held.utf8 c.in-Some.ensures.steps.0 in
    rw (small, c.in_default.ensures) at held.same

pub returns-then-to_ascii_lowercase-expected : goal.returns-then-to_ascii_lowercase-expected
unfolding begins
returns-then-to_ascii_lowercase-expected c =
    let held = c.loop-expected.invariant in
    let small = chars_past_char _ _ c.in-Some.expected held.utf8 c.in-Some.ensures.steps.0 in
    let other : eqb (to_ascii_lowercase c.in-Some-first_kept.c) c.in-Some.expected ≡ false =
    ne_eqb _ _ (λ e. c.if-to_ascii_lowercase-expected.true (c.to_ascii_lowercase.ensures.value ∙ e)) in
    rw (small, c.in-Some-first_kept.ensures, other) at held.same

pub loop-expected-preserved : goal.loop-expected-preserved
unfolding begins
loop-expected-preserved c =
    let held = c.loop-expected.invariant in
    let small = chars_past_char _ _ c.in-Some.expected held.utf8 c.in-Some.ensures.steps.0 in
    let equal : eqb (to_ascii_lowercase c.in-Some-first_kept.c) c.in-Some.expected ≡ true =
    eq-eqb _ _ (sym c.to_ascii_lowercase.ensures.value ∙ c.if-to_ascii_lowercase-expected.false) in
    record {
      is_text = search rules;
      utf8 = IsUtf8-past_char _ _ c.in-Some.expected held.utf8 c.in-Some.ensures.steps.0;
      same = rw (small, c.in-Some-first_kept.ensures, equal) at held.same;
    }

pub returns : goal.returns
unfolding begins
returns c =
    let held = c.loop-expected.invariant in
    let small = chars_of_empty _ c.in-None.ensures.steps.0.0 in
    rw small at held.same
