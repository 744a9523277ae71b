use Rattle.std.proofs.Common.{◌≡◌, ℕ, ◌<◌, true, List, ◌∷◌, ◌++◌, chars, refl, sym, ap, ◌∙◌, arith}
use Rattle.std.proofs.lemmas.{Bool.Decides.{nat_tests}, Str.{chars_past_char}}
use Rattle.html_page_read.specs.DocumentTypes.{around, is_quote, quoted}
use Rattle.html_page_read.proofs.Splits.{split_around}
use Rattle.html_page_read.proofs.doctype.quoted.Goals as goal
use lib.Utf8.{encode}

low : (c : ℕ) → is_quote c ≡ true → c < 128
low c is = grind (arith, nat_tests)

within : (c : ℕ) (cs : List ℕ) → is_quote c ≡ true → around c cs ≡ quoted (c ∷ cs)
within c cs is = rw is refl

pub returns : goal.returns
returns c =
    let quote = c.in_ok-quote.quote in
    let behind = c.as_str.result.now in
    let is : is_quote quote ≡ true = sym c.if-not-is_quote.ensures in
    let whole : chars c.args.text.now ≡ quote ∷ chars behind =
    chars_past_char c.args.text.now behind quote c.utf8.text
    (sym c.chars-left.ensures.rest ∙ (c.in_ok-quote.ensures.steps.0
    ∙ ap (λ l. encode quote ++ l) (sym c.as_str.ensures))) in
    split_around quote behind c.split_once.result (low quote is) c.as_str.utf8
    c.split_once.ensures.cases
    ∙ (within quote (chars behind) is ∙ ap quoted (sym whole))
