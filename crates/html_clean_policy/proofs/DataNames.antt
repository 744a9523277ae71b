-- A text begins with an ASCII word where its characters do.
use Rattle.std.proofs.Common.{◌≡◌, ℕ, true, List, length, drop, refl, chars}
use Rattle.std.specs.Prelude.{◌==◌}
use lib.Utf8.{encodes}
use Rattle.std.proofs.lemmas.{Bool.Decides.{Decides-eqb}, Slice.Eq.{starts_is}}
use Rattle.std.specs.{Bool.{one_answer}, List.{starts_with}, Str.{IsUtf8}}
use Rattle.html_names_core.specs.Names.{is_ascii}
use Rattle.html_text.proofs.Words.{chars_after_word, word_before}

pub starts-chars : (word text : List ℕ) → is_ascii word ≡ true → IsUtf8 text →
    starts_with ◌==◌ text word ≡ starts_with ◌==◌ (chars text) word
starts-chars word text a u =
    let bytes = starts_is Decides-eqb text word (starts_with ◌==◌ text word) refl in
    let characters =
    starts_is Decides-eqb (chars text) word (starts_with ◌==◌ (chars text) word) refl in
    one_answer (starts_with ◌==◌ text word) (starts_with ◌==◌ (chars text) word) (
      λ h. characters.1 (chars (drop (length word) text))
          (chars_after_word word text (drop (length word) text) a (bytes.0 h)),
      λ h. bytes.1 (encodes (drop (length word) (chars text)))
          (word_before word text (drop (length word) (chars text)) a u (characters.0 h)),
    ) (λ h. h, λ h. h)
