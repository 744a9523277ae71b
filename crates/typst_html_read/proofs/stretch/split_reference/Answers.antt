use Rattle.std.proofs.{Common.{◌≡◌, ℕ, List, [], ◌++◌, true, chars, codes, refl, sym, ap, ◌∙◌}, lemmas.Str.{chars-nil}}
use Rattle.html_names_core.{proofs.Lists.{chars_ascii}, specs.Names.{is_ascii}}
use Rattle.typst_html_read.specs.{BegunReferences.{begins_digits, begins_reference}, Stretches.{all_grow, continues}}
use Rattle.html_text.proofs.Words.{chars_behind_word}
use Rattle.typst_html_read.proofs.stretch.split_reference.Goals as goal

-- the word is split off
record Splits (word text rest : List ℕ) : Type 0 where
  parts : chars text ≡ chars word ++ chars rest
  begins : all_grow continues [] (chars word) ≡ true

split : (word text left rest : List ℕ) → is_ascii word ≡ true → all_grow continues [] word ≡ true →
    text ≡ word ++ left → rest ≡ left → Splits word text rest
split word text left rest ascii grows is e = record {
  parts = chars_behind_word word text rest ascii (is ∙ sym (ap (λ l. word ++ l) e));
  begins = ap (all_grow continues []) (chars_ascii word ascii) ∙ grows;
}

pub returns-in-Some : goal.returns-in-Some
unfolding begins_digits begins_reference
returns-in-Some c =
    let found = c.in-Some.ensures.cases in
    let is = split (codes "amp") c.args.text.now _ _ refl refl found.1.1 found.2 in
    record { parts = is.parts; begins = is.begins }

pub returns-in-Some-strip_prefix : goal.returns-in-Some-strip_prefix
unfolding begins_digits begins_reference
returns-in-Some-strip_prefix c =
    let found = c.in-Some-strip_prefix.ensures.cases in
    let is = split (codes "lt") c.args.text.now _ _ refl refl found.1.1 found.2 in
    record { parts = is.parts; begins = is.begins }

pub returns-in-Some-strip_prefix-2 : goal.returns-in-Some-strip_prefix-2
unfolding begins_digits begins_reference
returns-in-Some-strip_prefix-2 c =
    let found = c.in-Some-strip_prefix-2.ensures.cases in
    let is = split (codes "gt") c.args.text.now _ _ refl refl found.1.1 found.2 in
    record { parts = is.parts; begins = is.begins }

pub returns-in-Some-strip_prefix-3 : goal.returns-in-Some-strip_prefix-3
unfolding begins_digits begins_reference
returns-in-Some-strip_prefix-3 c =
    let found = c.in-Some-strip_prefix-3.ensures.cases in
    let is = split (codes "#x20") c.args.text.now _ _ refl refl found.1.1 found.2 in
    record { parts = is.parts; begins = is.begins }

pub returns : goal.returns
returns c = record {
  parts = ap (λ l. l ++ chars c.args.text.now) (sym chars-nil);
  begins = ap (all_grow continues []) chars-nil;
}
