-- Texts in bytes and in characters.
use Rattle.std.proofs.Common.{◌≡◌, ℕ, true, List, [], ◌∷◌, refl, sym, ap, ◌∙◌, bytes_eq, chars}
use Rattle.std.proofs.lemmas.{Bool.{and_parts}, Str.{chars-IsAscii, encodes-chars, IsUtf8-from_ascii}, Slice.Eq.{bytes_eq-Decides}}
use Rattle.std.specs.{Bool.{one_answer}, Str.{IsUtf8}}
use lib.Utf8.{encodes}
use Rattle.html_names_core.{proofs.Basics.{is_ascii_is}, specs.Names.{stands_in, is_ascii, are_ascii}}

pub chars_ascii : (s : List ℕ) → is_ascii s ≡ true → chars s ≡ s
chars_ascii s h = chars-IsAscii s (is_ascii_is s h)

-- texts are equal where their characters are
pub bytes_eq-chars : (a b : List ℕ) → IsUtf8 a → IsUtf8 b →
    bytes_eq (chars a) (chars b) ≡ bytes_eq a b
bytes_eq-chars a b u v =
    one_answer (bytes_eq (chars a) (chars b)) (bytes_eq a b) (bytes_eq-Decides (chars a) (chars b)) (
      λ h. ap chars ((bytes_eq-Decides a b).0 h),
      λ e. (bytes_eq-Decides a b).1
          (sym (encodes-chars a u) ∙ (ap encodes e ∙ encodes-chars b v)),
    )

pub bytes_eq-ascii : (n t : List ℕ) → is_ascii n ≡ true → IsUtf8 t →
    bytes_eq n (chars t) ≡ bytes_eq n t
bytes_eq-ascii n t a u =
    let e : chars n ≡ n = chars_ascii n a in
    let v : IsUtf8 n = IsUtf8-from_ascii n (is_ascii_is n a) in
    ap (λ m. bytes_eq m (chars t)) (sym e) ∙ bytes_eq-chars n t v u

pub stands_in-chars : (names : List (List ℕ)) (t : List ℕ) → are_ascii names ≡ true → IsUtf8 t →
    stands_in names (chars t) ≡ stands_in names t
unfolding stands_in
stands_in-chars [] t a u = refl
stands_in-chars (n ∷ ns) t a u =
    let both = and_parts (is_ascii n) (are_ascii ns) a in
    rw (bytes_eq-ascii n t both.0 u, stands_in-chars ns t both.1 u) refl

pub ruleset in_characters = (stands_in-chars, bytes_eq-chars, encodes-chars)
