use Rattle.std.proofs.{Common.{◌≡◌, false, true, eqb, sym, ◌∙◌}, StrCases.{chars_of_empty}}
use Rattle.std.{proofs.lemmas.Bool.{ne_eqb, eq-eqb}, proofs.lemmas.Str.{IsUtf8-past_char, chars_past_char}, specs.Char.{to_ascii_lowercase}}
use Rattle.html_text.proofs.closing.begins_with_name.Goals as goal

pub returns-in_default : goal.returns-in_default
returns-in_default c =
    let held = c.loop-expected.invariant in
    let name = chars_past_char _ _ c.in-Some.expected held.name_utf8 c.in-Some.ensures.steps.0 in
    let empty = chars_of_empty _ c.in_default.ensures.steps.0.0 in
    rw (name, empty) at held.same

pub returns-then-to_ascii_lowercase : goal.returns-then-to_ascii_lowercase
returns-then-to_ascii_lowercase c =
    let held = c.loop-expected.invariant in
    let name = chars_past_char _ _ c.in-Some.expected held.name_utf8 c.in-Some.ensures.steps.0 in
    let text = chars_past_char _ _ c.in-Some-next.c held.text_utf8 c.in-Some-next.ensures.steps.0 in
    let other : eqb (to_ascii_lowercase c.in-Some-next.c)
    (to_ascii_lowercase c.in-Some.expected) ≡ false =
    ne_eqb _ _ (λ e. c.if-to_ascii_lowercase.true (c.to_ascii_lowercase.ensures.value
    ∙ (e ∙ sym c.to_ascii_lowercase-in-loop-expected.ensures.value))) in
    rw (name, text, other) at held.same

pub loop-expected-preserved : goal.loop-expected-preserved
loop-expected-preserved c =
    let held = c.loop-expected.invariant in
    let name = chars_past_char _ _ c.in-Some.expected held.name_utf8 c.in-Some.ensures.steps.0 in
    let text = chars_past_char _ _ c.in-Some-next.c held.text_utf8 c.in-Some-next.ensures.steps.0 in
    let equal : eqb (to_ascii_lowercase c.in-Some-next.c)
    (to_ascii_lowercase c.in-Some.expected) ≡ true =
    eq-eqb _ _ (sym c.to_ascii_lowercase.ensures.value
    ∙ (c.if-to_ascii_lowercase.false ∙ c.to_ascii_lowercase-in-loop-expected.ensures.value)) in
    record {
      name_utf8 = IsUtf8-past_char _ _ c.in-Some.expected held.name_utf8 c.in-Some.ensures.steps.0;
      text_utf8 = IsUtf8-past_char _ _ c.in-Some-next.c held.text_utf8
          c.in-Some-next.ensures.steps.0;
      same = rw (name, text, equal) at held.same;
    }

pub returns-in-Some-next-2 : goal.returns-in-Some-next-2
returns-in-Some-next-2 c =
    let held = c.loop-expected.invariant in
    let name = chars_of_empty _ c.in-None.ensures.steps.0.0 in
    let text =
    chars_past_char _ _ c.in-Some-next-2.end held.text_utf8 c.in-Some-next-2.ensures.steps.0 in
    c.is_tag_end.ensures ∙ rw (name, text) at held.same

pub returns-in-None-next : goal.returns-in-None-next
returns-in-None-next c =
    let held = c.loop-expected.invariant in
    let name = chars_of_empty _ c.in-None.ensures.steps.0.0 in
    let text = chars_of_empty _ c.in-None-next.ensures.steps.0.0 in
    rw (name, text) at held.same
