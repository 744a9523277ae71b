use Rattle.std.proofs.Common.{rules, ◌≡◌, ◌<◌, ℕ, true, sym, ◌∙◌, arith}
use Rattle.std.proofs.lemmas.{Bool.Decides.{nat_tests}, Fn.{always_returns_same}, Str.{chars-nil}}
use Rattle.std.specs.Char.{is_ascii_whitespace}
use Rattle.html_clean_values.proofs.Cuts.{none_after, none_before, some_after, some_before}
use Rattle.html_clean_values.proofs.words.cut_word.Goals as goal

low : (c : ℕ) → is_ascii_whitespace c ≡ true → c < 128
low c is = grind (arith, nat_tests)

pub returns-in-Some-clause-word : goal.returns-in-Some-clause-word
returns-in-Some-clause-word c =
    let h = c.in-Some.ensures.cases in
    let found = h.2 is_ascii_whitespace (always_returns_same _ _ _ (λ a r f' k. search rules)) in
    sym (some_before is_ascii_whitespace c.args.text.now c.in-Some.parts.0.now c.in-Some.parts.1.now
    h.0 h.1 found.1.0 c.utf8.text found.0 found.1.2 found.1.1 (low found.1.0 found.1.1) h.3 h.4 h.7)

pub returns-in-Some-clause-rest : goal.returns-in-Some-clause-rest
returns-in-Some-clause-rest c =
    let h = c.in-Some.ensures.cases in
    let found = h.2 is_ascii_whitespace (always_returns_same _ _ _ (λ a r f' k. search rules)) in
    sym (some_after is_ascii_whitespace c.args.text.now c.in-Some.parts.0.now c.in-Some.parts.1.now
    h.0 h.1 found.1.0 c.utf8.text found.0 found.1.2 found.1.1 (low found.1.0 found.1.1) h.3 h.4 h.7)

pub returns-in-None-clause-word : goal.returns-in-None-clause-word
returns-in-None-clause-word c =
    let found = c.in-None.ensures.cases is_ascii_whitespace
    (always_returns_same _ _ _ (λ a r f' k. search rules)) in
    sym (none_before is_ascii_whitespace c.args.text.now c.utf8.text found)

pub returns-in-None-clause-rest : goal.returns-in-None-clause-rest
returns-in-None-clause-rest c =
    let found = c.in-None.ensures.cases is_ascii_whitespace
    (always_returns_same _ _ _ (λ a r f' k. search rules)) in
    chars-nil ∙ sym (none_after is_ascii_whitespace c.args.text.now c.utf8.text found)
