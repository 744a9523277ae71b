use Rattle.std.proofs.{Common.{◌≡◌, ℕ, true, false, List, chars, eqb, Some, option_map, sym, ap, ◌∙◌}, StrCases.{chars_of_empty}}
use Rattle.std.{proofs.lemmas.Bool.{ne_eqb, eq-eqb}, proofs.lemmas.Str.{IsUtf8-past_char, chars_past_char}, specs.Char.{to_ascii_lowercase}}
use Rattle.html_names_core.{proofs.Lists.{chars_ascii}, specs.Names.{is_ascii}}
use Rattle.html_page_read.specs.DocumentTypes.{past_word}
use Rattle.html_page_read.proofs.doctype.past_word.Goals as goal

as_word : (word text : List ℕ) → is_ascii word ≡ true →
    past_word (chars word) text ≡ past_word word text
as_word word text ascii = ap (λ w. past_word w text) (chars_ascii word ascii)

pub returns-in_err-next : goal.returns-in_err-next
returns-in_err-next c =
    let held = c.loop-expected.invariant in
    let word = chars_past_char _ _ c.in-Some.expected held.word_utf8 c.in-Some.ensures.steps.0 in
    let empty = chars_of_empty _ c.in_err-next.ensures.steps.0.0 in
    let none = rw (word, empty) at held.same in
    ap (option_map (λ t. chars t.now)) c.from_residual.ensures
    ∙ (none ∙ as_word c.args.word.now (chars c.args.text.now) c.requires)

pub returns-then-to_ascii_lowercase-expected : goal.returns-then-to_ascii_lowercase-expected
returns-then-to_ascii_lowercase-expected c =
    let held = c.loop-expected.invariant in
    let word = chars_past_char _ _ c.in-Some.expected held.word_utf8 c.in-Some.ensures.steps.0 in
    let text =
    chars_past_char _ _ c.in_ok-next.field-0 held.text_utf8 c.in_ok-next.ensures.steps.0 in
    let other : eqb (to_ascii_lowercase c.in_ok-next.field-0) c.in-Some.expected ≡ false =
    ne_eqb _ _ (λ e. c.if-to_ascii_lowercase-expected.true
    (c.to_ascii_lowercase.ensures.value ∙ e)) in
    let none = rw (word, text, other) at held.same in
    none ∙ as_word c.args.word.now (chars c.args.text.now) c.requires

pub loop-expected-preserved : goal.loop-expected-preserved
loop-expected-preserved c =
    let held = c.loop-expected.invariant in
    let word = chars_past_char _ _ c.in-Some.expected held.word_utf8 c.in-Some.ensures.steps.0 in
    let text =
    chars_past_char _ _ c.in_ok-next.field-0 held.text_utf8 c.in_ok-next.ensures.steps.0 in
    let equal : eqb (to_ascii_lowercase c.in_ok-next.field-0) c.in-Some.expected ≡ true =
    eq-eqb _ _ (sym c.to_ascii_lowercase.ensures.value ∙ c.if-to_ascii_lowercase-expected.false) in
    record {
      word_utf8 = IsUtf8-past_char _ _ c.in-Some.expected held.word_utf8 c.in-Some.ensures.steps.0;
      text_utf8 = IsUtf8-past_char _ _ c.in_ok-next.field-0 held.text_utf8
          c.in_ok-next.ensures.steps.0;
      same = rw (word, text, equal) at held.same;
    }

pub returns : goal.returns
returns c =
    let held = c.loop-expected.invariant in
    let word = chars_of_empty _ c.in-None.ensures.steps.0.0 in
    let rest = rw word at held.same in
    ap (λ l. Some (chars l)) c.as_str.ensures
    ∙ (rest ∙ as_word c.args.word.now (chars c.args.text.now) c.requires)
