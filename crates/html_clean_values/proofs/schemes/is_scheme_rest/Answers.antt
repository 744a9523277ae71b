use Rattle.std.proofs.{Common.{sym, ◌∙◌, rules}, StrCases.{chars_of_empty}}
use Rattle.std.proofs.lemmas.Str.{IsUtf8-past_char, chars_past_char}
use Rattle.html_clean_values.proofs.SchemeSteps.{rest_agrees, rest_differs, rest_done, rest_short}
use Rattle.html_clean_values.proofs.schemes.is_scheme_rest.Goals as goal

pub returns-in_default : goal.returns-in_default
returns-in_default c =
    let held = c.loop-expected.invariant in
    let small = chars_past_char _ _ c.in-Some.expected held.utf8 c.in-Some.ensures.steps.0 in
    sym (rest_short _ _ _ _ small c.in_default.ensures) ∙ held.same

pub returns-then-not-is_letter_of : goal.returns-then-not-is_letter_of
returns-then-not-is_letter_of c =
    let held = c.loop-expected.invariant in
    let small = chars_past_char _ _ c.in-Some.expected held.utf8 c.in-Some.ensures.steps.0 in
    sym (rest_differs _ _ _ _ _ _ small c.in-Some-first_kept.ensures.kept
    (sym c.is_letter_of.ensures ∙ c.if-not-is_letter_of.true)) ∙ held.same

pub loop-expected-preserved : goal.loop-expected-preserved
loop-expected-preserved c =
    let held = c.loop-expected.invariant in
    let small = chars_past_char _ _ c.in-Some.expected held.utf8 c.in-Some.ensures.steps.0 in
    record {
      is_text = search rules;
      utf8 = IsUtf8-past_char _ _ c.in-Some.expected held.utf8 c.in-Some.ensures.steps.0;
      same = sym (rest_agrees _ _ _ _ _ _ small c.in-Some-first_kept.ensures.kept
          (sym c.is_letter_of.ensures ∙ c.if-not-is_letter_of.false)) ∙ held.same;
    }

pub returns : goal.returns
returns c =
    let held = c.loop-expected.invariant in
    let small = chars_of_empty _ c.in-None.ensures.steps.0.0 in
    c.begins_with_colon.ensures ∙ (sym (rest_done _ _ small) ∙ held.same)
