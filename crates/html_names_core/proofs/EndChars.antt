-- The first and the last byte of a text are a character of ASCII just where its first and last
-- characters are, and it has no bytes just where it has no characters.
use Rattle.std.proofs.Common.{◌≡◌, ℕ, ◌<◌, ◌-◌, List, [], ◌∷◌, ◌++◌, length, get_or, false, ◌==◌, refl, ap, sym, ◌∙◌, inl, inr, chars, IsUtf8, arith}
use Rattle.std.proofs.lemmas.{Bool.{cases_Bool, eqb-true, eqb-false, ne_eqb}, List.{length-append, get_or-append_right}}
use Rattle.std.{proofs.lemmas.Str.{encodes-chars, encode_ascii, inside_one, length-encode, len_utf8_bounds}, specs.Prelude.{slice_index}}
use lib.Utf8.{encode, encodes}

last_within : (c : ℕ) → length (encode c ++ []) - 1 < length (encode c)
last_within c = omega (arith, length-append (encode c) [], length-encode c, (len_utf8_bounds c).0)

-- what stands last in the second of two lists stands last in both
last_of : (xs ys : List ℕ) → 0 < length ys
    → get_or (xs ++ ys) (length (xs ++ ys) - 1) 0 ≡ get_or ys (length ys - 1) 0
last_of xs ys h =
    get_or-append_right xs ys (length xs) (length (xs ++ ys) - 1) 0 refl
    (omega (arith, length-append xs ys))
    ∙ ap (λ k. get_or ys k 0) (omega (arith, length-append xs ys))

some_bytes : (c : ℕ) (cs : List ℕ) → 0 < length (encodes (c ∷ cs))
some_bytes c cs =
    omega (arith, length-append (encode c) (encodes cs), length-encode c, (len_utf8_bounds c).0)

empty_is : (cs : List ℕ) → (length (encodes cs) == 0) ≡ (length cs == 0)
empty_is [] = refl
empty_is (c ∷ cs) =
    ne_eqb (length (encodes (c ∷ cs))) 0 (λ e. absurd (omega (arith, some_bytes c cs, e)))
    ∙ sym (ne_eqb (length (c ∷ cs)) 0 (λ e. absurd (omega (arith, e))))

pub empty_chars : (bs : List ℕ) → IsUtf8 bs → (length bs == 0) ≡ (length (chars bs) == 0)
empty_chars bs u = ap (λ s. length s == 0) (sym (encodes-chars bs u)) ∙ empty_is (chars bs)

module _ (a : ℕ) (ascii : a < 128) where
  -- it is one byte, and a byte of another character is none of that
  other_byte : (c : ℕ) (r : List ℕ) (k : ℕ) → k < length (encode c) → (c == a) ≡ false
      → (get_or (encode c ++ r) k 0 == a) ≡ false
  other_byte c r k within h =
      ne_eqb (get_or (encode c ++ r) k 0) a (λ e. eqb-false c a h
      (inside_one c r (encode c ++ r) k refl within (omega (arith, e, ascii)) ∙ e))

  same_first : (c : ℕ) (r : List ℕ) → (get_or (encode c ++ r) 0 0 == a) ≡ (c == a)
  same_first c r =
      elim (cases_Bool (c == a)) [
        | inl e ↦ rw (eqb-true c a e, encode_ascii a ascii) refl
        | inr e ↦ rw e (other_byte c r 0 (omega (arith, length-encode c, (len_utf8_bounds c).0)) e)
      ]

  same_last : (c : ℕ) → (get_or (encode c ++ []) (length (encode c ++ []) - 1) 0 == a) ≡ (c == a)
  same_last c =
      elim (cases_Bool (c == a)) [
        | inl e ↦ rw (eqb-true c a e, encode_ascii a ascii) refl
        | inr e ↦ rw e (other_byte c [] (length (encode c ++ []) - 1) (last_within c) e)
      ]

  first_is : (cs : List ℕ) → (slice_index (encodes cs) 0 == a) ≡ (slice_index cs 0 == a)
  first_is [] = refl
  first_is (c ∷ cs) = same_first c (encodes cs)

  last_is : (cs : List ℕ)
      → (slice_index (encodes cs) (length (encodes cs) - 1) == a)
      ≡ (slice_index cs (length cs - 1) == a)
  last_is [] = refl
  last_is (c ∷ []) = same_last c
  last_is (c ∷ d ∷ cs) =
      ap (λ b. b == a) (last_of (encode c) (encodes (d ∷ cs)) (some_bytes d cs))
      ∙ last_is (d ∷ cs)
      ∙ ap (λ b. b == a) (sym (last_of (c ∷ []) (d ∷ cs) (omega arith)))

  pub first_chars : (bs : List ℕ) → IsUtf8 bs
      → (slice_index bs 0 == a) ≡ (slice_index (chars bs) 0 == a)
  first_chars bs u =
      ap (λ s. slice_index s 0 == a) (sym (encodes-chars bs u)) ∙ first_is (chars bs)

  pub last_chars : (bs : List ℕ) → IsUtf8 bs
      → (slice_index bs (length bs - 1) == a)
      ≡ (slice_index (chars bs) (length (chars bs) - 1) == a)
  last_chars bs u =
      ap (λ s. slice_index s (length s - 1) == a) (sym (encodes-chars bs u)) ∙ last_is (chars bs)
