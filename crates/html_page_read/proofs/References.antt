-- Numbers above those of all characters are one as another.
use Rattle.std.proofs.Common.{◌≡◌, ℕ, zero, suc, ◌+◌, ◌-◌, ◌*◌, ◌≤◌, true, inl, inr, List, [], ◌∷◌, Option, Some, None, chars, drop, length, min, take, refl, sym, ap, ◌∙◌, arith}
use Rattle.std.specs.{Char.{digit_value}, Str.Parse.{digits_value, digits_value_after}}
use native.Mathlib.Nat.{mul-le-mul_left, mul-one, min_comm, min-eq_left, min-le_left, le_refl}
use Rattle.std.proofs.lemmas.{Bool.{cases_lt}, List.{take_all, drop_all}, Str.{IsAscii-take, IsAscii-drop, chars-IsAscii}}
use Rattle.std.proofs.lemmas.Bool.Decides.{nat_tests}
use Rattle.html_names_core.{proofs.Basics.{is_ascii_is}, proofs.Lists.{chars_ascii}, specs.Names.{is_ascii}}
use Rattle.html_page_names.specs.NamedReferences.{legacy_reference}
use Rattle.html_page_read.specs.PageReferences.{numbered, numbered_char, number_error, resolved_number, found_before, longest_legacy}

min-eq_right : {m n : ℕ} → n ≤ m → min m n ≡ n
min-eq_right {m} {n} h = min_comm m n ∙ min-eq_left h

pub at_most : (n : ℕ) → min n 0x11_0000 ≤ 0x11_0000
at_most n = rw (min_comm n 0x11_0000) (min-le_left 0x11_0000 n)

grows : (b n : ℕ) (ds : List ℕ) → 1 ≤ b → n ≤ digits_value_after b n ds
grows b n [] h = omega arith
grows b n (d ∷ ds) h =
    let more = mul-le-mul_left n h in
    let later = grows b (n * b + digit_value d) ds h in
    omega (arith, more, later, mul-one n)

-- what is the same from a number on is that of the smaller of two
at_min : {A : Type 0} (f : ℕ → A) (n m : ℕ) → (m ≤ n → f m ≡ f n) → f (min n m) ≡ f n
at_min f n m top =
    elim (cases_lt n m) [
      | inl low ↦ let few : n ≤ m = omega arith in ap f (min-eq_left few)
      | inr high ↦ ap f (min-eq_right high) ∙ top high
    ]

-- of a number that is too high, further digits make no other
pub capped : (b n : ℕ) (ds : List ℕ) → 1 ≤ b →
    min (digits_value_after b (min n 0x11_0000) ds) 0x11_0000
    ≡ min (digits_value_after b n ds) 0x11_0000
capped b n ds h = at_min (λ m. min (digits_value_after b m ds) 0x11_0000) n 0x11_0000 (λ high.
    let own : 0x11_0000 ≤ digits_value_after b n ds = omega (arith, grows b n ds h, high) in
    min-eq_right (grows b 0x11_0000 ds h) ∙ sym (min-eq_right own))

-- the character and the error of a number that is too high are those of the first that is
pub capped_char : (n : ℕ) → numbered_char (min n 0x11_0000) ≡ numbered_char n
capped_char n = at_min numbered_char n 0x11_0000 (λ high. grind (arith, nat_tests))

pub capped_error : (n : ℕ) → number_error (min n 0x11_0000) ≡ number_error n
capped_error n = at_min number_error n 0x11_0000 (λ high. grind (arith, nat_tests))

same_numbered : (n m : ℕ) (behind : Option ℕ) → numbered_char n ≡ numbered_char m →
    number_error n ≡ number_error m → numbered n behind ≡ numbered m behind
same_numbered n m behind e f = cc

-- digits, of which there is one at least
pub by_number : (base : ℕ) (since digits : List ℕ) (d : ℕ) (ds : List ℕ) (behind : Option ℕ) →
    digits ≡ d ∷ ds →
    numbered (min (digits_value base digits) 0x11_0000) behind
    ≡ resolved_number base since digits behind
by_number base since digits d ds behind e =
    let n = digits_value base digits in
    same_numbered (min n 0x11_0000) n behind (capped_char n) (capped_error n)
    ∙ (ap (λ l. numbered (digits_value base l) behind) e
    ∙ sym (ap (λ l. resolved_number base since l behind) e))

-- the longest name: the first so many characters of a text are its first bytes, where it is ASCII

cut_at : (n : ℕ) (t : List ℕ) → take (min n (length t)) t ≡ take n t
cut_at n t = at_min (λ k. take k t) n (length t)
    (λ h. take_all (length t) t (le_refl (length t)) ∙ sym (take_all n t h))

left_at : (n : ℕ) (t : List ℕ) → drop (min n (length t)) t ≡ drop n t
left_at n t = at_min (λ k. drop k t) n (length t)
    (λ h. drop_all (length t) t (le_refl (length t)) ∙ sym (drop_all n t h))

-- its bytes are its characters
module _ (t : List ℕ) (a : is_ascii t ≡ true) (n : ℕ) where
  pub front_chars : (k : ℕ) (front : List ℕ) → k ≡ min n (length t) → front ≡ take k t →
      chars front ≡ take n (chars t)
  front_chars k front few is = ap chars (is ∙ (ap (λ k. take k t) few ∙ cut_at n t))
      ∙ (chars-IsAscii (take n t) (IsAscii-take t n (is_ascii_is t a))
      ∙ ap (take n) (sym (chars_ascii t a)))

  pub rest_chars : (k : ℕ) (rest : List ℕ) → k ≡ min n (length t) → rest ≡ drop k t →
      chars rest ≡ drop n (chars t)
  rest_chars k rest few is = ap chars (is ∙ (ap (λ k. drop k t) few ∙ left_at n t))
      ∙ (chars-IsAscii (drop n t) (IsAscii-drop t n (is_ascii_is t a))
      ∙ ap (drop n) (sym (chars_ascii t a)))

pub one_more : (n : ℕ) → (n ≡ 0 → ⊥) → n ≡ suc (n - 1)
one_more zero h = absurd (h refl)
one_more (suc n) h = omega arith

-- a name of so many characters, and what is behind it
pub found_here : (n : ℕ) (cs value : List ℕ) → (n ≡ 0 → ⊥) →
    legacy_reference (take n cs) ≡ Some value → longest_legacy n cs ≡ Some (value, drop n cs)
found_here zero cs value h e = absurd (h refl)
found_here (suc n) cs value h e =
    ap (λ f. found_before f (drop (suc n) cs) (longest_legacy n cs)) e

pub found_later : (n : ℕ) (cs : List ℕ) → (n ≡ 0 → ⊥) → legacy_reference (take n cs) ≡ None →
    longest_legacy n cs ≡ longest_legacy (n - 1) cs
found_later zero cs h e = absurd (h refl)
found_later (suc n) cs h e =
    let less : n ≡ suc n - 1 = omega arith in
    ap (λ f. found_before f (drop (suc n) cs) (longest_legacy n cs)) e
    ∙ ap (λ k. longest_legacy k cs) less
