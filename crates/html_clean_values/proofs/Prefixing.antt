-- Texts with a prefix.
use Rattle.std.proofs.Common.{◌≡◌, ℕ, Bool, true, false, List, [], ◌∷◌, ◌++◌, append-nil, append_assoc, chars, drop, eqb, length, refl, sym, ap, ◌∙◌}
use Rattle.std.proofs.lemmas.{Bool.Decides.{Decides-eqb}, Slice.Eq.{starts_is}}
use Rattle.std.proofs.lemmas.Str.{chars-append, encodes-append, encodes-chars}
use Rattle.std.specs.{List.{starts_with}, Str.{IsUtf8}}
use Rattle.html_clean_values.specs.Words.{joined}
use lib.Utf8.{encodes}

pub same_tests : (a b : Bool) → (a ≡ true → b ≡ true) → (b ≡ true → a ≡ true) → a ≡ b
same_tests true b f g = sym (f refl)
same_tests false true f g = g refl
same_tests false false f g = refl

-- a text begins with another where its characters do
pub starts_chars : (s p : List ℕ) → IsUtf8 s → IsUtf8 p →
    starts_with eqb s p ≡ starts_with eqb (chars s) (chars p)
starts_chars s p u v =
    let by_bytes = starts_is Decides-eqb s p (starts_with eqb s p) refl in
    let by_chars = starts_is Decides-eqb (chars s) (chars p)
    (starts_with eqb (chars s) (chars p)) refl in
    same_tests (starts_with eqb s p) (starts_with eqb (chars s) (chars p))
    (λ h. by_chars.1 (chars (drop (length p) s))
    (ap chars (by_bytes.0 h) ∙ chars-append p (drop (length p) s) v))
    (λ h. by_bytes.1 (encodes (drop (length (chars p)) (chars s)))
    (sym (encodes-chars s u) ∙ (ap encodes (by_chars.0 h)
    ∙ (encodes-append (chars p) (drop (length (chars p)) (chars s))
    ∙ ap (λ l. l ++ encodes (drop (length (chars p)) (chars s))) (encodes-chars p v)))))

-- the words behind a separator
abbrev pub continued : (separator : List ℕ) → List (List ℕ) → List ℕ
continued separator [] = []
continued separator (w ∷ ws) = separator ++ (w ++ continued (32 ∷ []) ws)

pub joined_is : (ws : List (List ℕ)) → joined ws ≡ continued [] ws
joined_is [] = refl
joined_is (w ∷ []) = sym (append-nil w)
joined_is (w ∷ v ∷ ws) = ap (λ l. w ++ 32 ∷ l) (joined_is (v ∷ ws))

pub one_continued : (made separator w : List ℕ) (ws : List (List ℕ)) →
    made ++ continued separator (w ∷ ws) ≡ ((made ++ separator) ++ w) ++ continued (32 ∷ []) ws
one_continued made separator w ws =
    sym (append_assoc made separator (w ++ continued (32 ∷ []) ws))
    ∙ sym (append_assoc (made ++ separator) w (continued (32 ∷ []) ws))
