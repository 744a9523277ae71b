use Rattle.std.{proofs.Common.{◌≡◌, ℕ, List, ◌∷◌, true, chars, codes, refl, sym, ap, ◌∙◌}, specs.Fmt.{digits}}
use Rattle.html_names_core.specs.Names.{is_ascii}
use Rattle.typst_html_encode.specs.References as definition
use Rattle.typst_html_read.proofs.References.{by_number, no_reference}
use Rattle.html_text.proofs.Words.{word_is}
use Rattle.typst_html_read.proofs.reference.reference.Goals as goal

of_word : (w words : List ℕ) → is_ascii w ≡ true → words ≡ w →
    definition.reference w ≡ definition.reference (chars words)
of_word w words ascii is = sym (ap definition.reference (word_is w words ascii is))

pub returns-in-amp : goal.returns-in-amp
returns-in-amp c = of_word (codes "amp") c.args.words.now refl c.in-amp.is

pub returns-in-lt : goal.returns-in-lt
returns-in-lt c = of_word (codes "lt") c.args.words.now refl c.in-lt.is

pub returns-in-gt : goal.returns-in-gt
returns-in-gt c = of_word (codes "gt") c.args.words.now refl c.in-gt.is

pub returns-in-quot : goal.returns-in-quot
returns-in-quot c = of_word (codes "quot") c.args.words.now refl c.in-quot.is

pub returns-in-apos : goal.returns-in-apos
returns-in-apos c = of_word (codes "apos") c.args.words.now refl c.in-apos.is

pub returns-in-text : goal.returns-in-text
unfolding digits
returns-in-text c = of_word (codes "#x20") c.args.words.now refl c.in-text.is

pub returns-in_ok-numbered-in-Some : goal.returns-in_ok-numbered-in-Some
returns-in_ok-numbered-in-Some c =
    let found = c.in-Some.ensures.cases in
    c.in_ok-numbered-in-Some.ensures ∙ sym (by_number c.args.words.now c.in-Some.digits.now
    (found.1.1 ∙ sym (ap (λ l. 35 ∷ 120 ∷ l) found.2)))

pub returns-in-None : goal.returns-in-None
returns-in-None c =
    let other = c.in_default in
    no_reference c.args.words.now c.utf8.words other.not-amp other.not-lt other.not-gt
    other.not-quot other.not-apos c.in-None.ensures.cases
