-- The words of a text, word by word.
use Rattle.std.proofs.Common.{◌≡◌, ℕ, ◌≤◌, Bool, true, false, List, [], ◌∷◌, filter, length, refl, sym, ap, ◌∙◌, arith}
use Rattle.std.specs.{Char.{is_ascii_whitespace}, List.{after_first, before_first, onto_first, slice_split}}
use Rattle.std.proofs.lemmas.List.Splits.{slice_split-cons_no, slice_split-cons_yes}
use Rattle.html_clean_values.proofs.Cuts.{after_here, after_later, after_shorter, before_here, before_later}
use Rattle.html_clean_values.specs.Words.{TakesWord, is_some_word, words}

pub words_nil : words [] ≡ []
unfolding words
words_nil = refl

pub words_blank : (c : ℕ) (cs : List ℕ) → is_ascii_whitespace c ≡ true → words (c ∷ cs) ≡ words cs
unfolding words
words_blank c cs is = rw is refl

-- the parts behind the first
record Parts (cs : List ℕ) : Type 0 where
  others : List (List ℕ)
  split : slice_split is_ascii_whitespace cs ≡ before_first is_ascii_whitespace cs ∷ others
  words : filter is_some_word others ≡ words (after_first is_ascii_whitespace cs)

parts : (cs : List ℕ) → Parts cs
unfolding words
parts [] = record { others = []; split = refl; words = refl }
parts (c ∷ cs) = by (parts cs) (is_ascii_whitespace c) refl where
  by : Parts cs → (b : Bool) → is_ascii_whitespace c ≡ b → Parts (c ∷ cs)
  by held true is = record {
    others = slice_split is_ascii_whitespace cs;
    split = slice_split-cons_yes is_ascii_whitespace c cs is
        ∙ ap (λ w. w ∷ slice_split is_ascii_whitespace cs)
        (sym (before_here is_ascii_whitespace c cs is));
    words = ap words (sym (after_here is_ascii_whitespace c cs is));
  }
  by held false is =
      record {
        others = held.others;
        split = slice_split-cons_no is_ascii_whitespace c cs is
            ∙ (ap (onto_first c) held.split
            ∙ ap (λ w. w ∷ held.others) (sym (before_later is_ascii_whitespace c cs is)));
        words = held.words ∙ ap words (sym (after_later is_ascii_whitespace c cs is));
      }

pub words_word : (c : ℕ) (cs : List ℕ) → is_ascii_whitespace c ≡ false → words (c ∷ cs)
    ≡ before_first is_ascii_whitespace (c ∷ cs) ∷ words (after_first is_ascii_whitespace (c ∷ cs))
unfolding words
words_word c cs is =
    let held = parts (c ∷ cs) in
    let front = before_later is_ascii_whitespace c cs is in
    ap (filter is_some_word) (held.split ∙ ap (λ w. w ∷ held.others) front)
    ∙ (ap (λ ws. (c ∷ before_first is_ascii_whitespace cs) ∷ ws) held.words
    ∙ ap (λ w. w ∷ words (after_first is_ascii_whitespace (c ∷ cs))) (sym front))

-- the first word, behind white space
pub takes_word : (text left : List ℕ) (c : ℕ) (cs word rest : List ℕ) → words left ≡ words text →
    length left ≤ length text → left ≡ c ∷ cs → is_ascii_whitespace c ≡ false →
    word ≡ before_first is_ascii_whitespace left → rest ≡ after_first is_ascii_whitespace left →
    TakesWord text word rest
takes_word text left c cs word rest same long begins is first last =
    let front = first ∙ ap (before_first is_ascii_whitespace) begins in
    let back = last ∙ ap (after_first is_ascii_whitespace) begins in
    record {
      words = sym same ∙ (ap words begins ∙ (words_word c cs is ∙ rw (front, back) refl));
      shorter = omega (
        arith,
        after_shorter is_ascii_whitespace c cs,
        ap length back,
        ap length begins,
        long,
      );
    }
