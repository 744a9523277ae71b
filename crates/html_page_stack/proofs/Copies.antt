-- What is left of bytes that are spent piece by piece.
use Rattle.std.proofs.Common.{◌≡◌, ◌+◌, ◌-◌, arith, ℕ, true, inl, inr, refl, sym, ap}
use Rattle.std.proofs.lemmas.{Bool.{cases_Bool, le-leb, leb-false, leb-true, lt-leb}, Option.{none-some, same_Some}}
use Rattle.std.specs.Prelude.{nat_le, Some, None}
use Rattle.html_page_stack.specs.Copies.{spent}

chosen : (s a c : ℕ) → spent s a ≡ Some c → (nat_le a s ≡ true) × (s - a ≡ c)
chosen s a c h = elim (cases_Bool (nat_le a s)) [
  | inl e ↦ (e, same_Some (s - a) c (rw e at h))
  | inr e ↦ absurd (none-some c (rw e at h))
]

-- behind a piece
pub spent_on : (s a b c : ℕ) → spent s a ≡ Some c → spent s (a + b) ≡ spent c b
spent_on s a b c h =
    let first = chosen s a c h in
    let enough = leb-true a s first.0 in
    elim (cases_Bool (nat_le b c)) [
      | inl e ↦
          let whole = le-leb (a + b) s (omega (arith, enough, first.1, leb-true b c e)) in
          rw (whole, e) (ap Some (omega (arith, enough, first.1)))
      | inr e ↦
          let whole = lt-leb (a + b) s (omega (arith, enough, first.1, leb-false b c e)) in
          rw (whole, e) refl
    ]

-- where a piece is too long already
pub none_on : (s a b : ℕ) → spent s a ≡ None → spent s (a + b) ≡ None
none_on s a b h = elim (cases_Bool (nat_le a s)) [
  | inl e ↦ absurd (none-some (s - a) (sym (rw e at h)))
  | inr e ↦ rw (lt-leb (a + b) s (omega (arith, leb-false a s e))) refl
]
