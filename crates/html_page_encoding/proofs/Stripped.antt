-- Labels without white space around them.
use Rattle.std.proofs.Common.{◌≡◌, ℕ, ◌-◌, eqb, eqb-true, true, false, List, [], ◌∷◌, ap, length, refl, sym, ◌∙◌, None, Some, arith}
use Rattle.std.{proofs.lemmas.Bool.{false≢true}, proofs.lemmas.Str.Ascii.{trim_ascii_end_is}, specs.Str.{IsTrimAsciiEnd}}
use Rattle.html_page_encoding.specs.{Attributes.{Part}, Classes.{behind, front}}
use Rattle.html_page_encoding.specs.Prescan.{some_label, stripped, stripped_end}
use Rattle.html_page_encoding.specs.declared.class.Class.TheVariants as class

pub end_is : (bs text : List ℕ) → IsTrimAsciiEnd bs text → text ≡ stripped_end bs
unfolding stripped_end
end_is bs text trimmed = trim_ascii_end_is bs text trimmed

none : (text : List ℕ) (left : ℕ) → eqb (length text) 0 ≡ true → None ≡ some_label text left
none [] left e = refl
none (b ∷ bs) left e = absurd (omega (arith, eqb-true (length (b ∷ bs)) 0 e))

some : (text : List ℕ) (left : ℕ) → eqb (length text) 0 ≡ false →
    Some (record { text = text; left = left }) ≡ some_label text left
some [] left e = absurd (false≢true (sym e))
some (b ∷ bs) left e = refl

module _ (p : Part) (space from text : List ℕ) (of_front : space ≡ front class.Space p.text)
    (of_behind : from ≡ behind class.Space p.text) (trimmed : IsTrimAsciiEnd from text) where
  is : text ≡ stripped_end (behind class.Space p.text)
  is = end_is from text trimmed ∙ ap stripped_end of_behind

  pub stripped_none : eqb (length text) 0 ≡ true → None ≡ stripped p
  unfolding stripped
  stripped_none e = none text (p.left - length (front class.Space p.text)) e
      ∙ ap (λ t. some_label t (p.left - length (front class.Space p.text))) is

  pub stripped_some : (left : ℕ) → eqb (length text) 0 ≡ false → left ≡ p.left - length space →
      Some (record { text = text; left = left }) ≡ stripped p
  unfolding stripped
  stripped_some left e l = some text left e
      ∙ (ap (some_label text) (l ∙ ap (λ s. p.left - length s) of_front)
      ∙ ap (λ t. some_label t (p.left - length (front class.Space p.text))) is)
