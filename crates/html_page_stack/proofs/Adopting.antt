-- Elements that are closed or taken off one by one.
use Rattle.std.proofs.Common.{◌≡◌, ◌+◌, ◌-◌, ◌<◌, ◌≤◌, arith, ℕ, zero, suc, Bool, true, false, inl, inr, List, [], ◌∷◌, ◌++◌, drop, length, reverse, take, refl, sym, ap, ◌∙◌}
use Rattle.std.{proofs.lemmas.Bool.{cases_Bool, leb-false}, proofs.lemmas.Option.{none-some, same_Some}, proofs.lemmas.List.{reverse-reverse}, specs.Prelude.{if◌then◌else◌, nat_le, IfSome, Option, Some, None}, specs.Option.{option_or}}
use Rattle.html_page_stack.specs.{Adoption.{Adoption, count_after, furthest_block, is_kept}, AdoptionViews.{IsInside}, Formats.{Format, entry_passes}, OpenElements.{OpenElement, closed_times, is_special, without_current}}

pub times_once : (n k : ℕ) (os : List OpenElement) → k < n →
    closed_times (n - k) os ≡ closed_times (n - (k + 1)) (without_current os)
times_once n k os h =
    ap (λ m. closed_times m os) {x = n - k} {y = suc (n - (k + 1))} (omega (arith, h))

pub times_done : (n k : ℕ) (os : List OpenElement) → n ≤ k → closed_times (n - k) os ≡ os
times_done n k os h = ap (λ m. closed_times m os) {x = n - k} {y = zero} (omega (arith, h))

-- one more is taken off
pub taken_more : {A : Type 0} (k : ℕ) (os : List A) →
    (take (suc k) os ≡ take k os ++ take 1 (drop k os)) × (drop (suc k) os ≡ drop 1 (drop k os))
taken_more zero os = (refl, refl)
taken_more (suc k) [] = (refl, refl)
taken_more (suc k) (o ∷ os) =
    let more = taken_more k os in (ap (λ l. o ∷ l) more.0, more.1)

pub taken_next : {A : Type 0} (k : ℕ) (os : List A) →
    (take (k + 1) os ≡ take k os ++ take 1 (drop k os)) × (drop (k + 1) os ≡ drop 1 (drop k os))
taken_next k os =
    let next : k + 1 ≡ suc k = omega arith in
    let more = taken_more k os in
    (ap (λ n. take n os) next ∙ more.0, ap (λ n. drop n os) next ∙ more.1)

-- at most one more element comes before the next entry
pub count_grows : (a : Adoption) (before : ℕ) (e : Option Format) →
    count_after a before e ≤ before + 1
count_grows a before e = elim (cases_Bool (entry_passes (is_kept a) e)) [
  | inl k ↦ rw k (omega arith)
  | inr k ↦ rw k (omega arith)
]

pub reversed_twice : {A : Type 0} (xs : List A) → reverse (reverse xs) ≡ xs
reversed_twice = reverse-reverse

inside_more : {index block : ℕ} {os : List OpenElement} (o : OpenElement) →
    IsInside index block os → IsInside index block (o ∷ os)
inside_more o h = record { order = h.order; within = omega (arith, h.within) }

either_block : (index block : ℕ) (o : OpenElement) (os : List OpenElement) (found own : Option ℕ) →
    (found ≡ Some block → IsInside index block os) → (own ≡ Some block → index < block × block ≡ length os) →
    option_or found own ≡ Some block → IsInside index block (o ∷ os)
either_block index block o os (Some b) own h k e = inside_more o (h e)
either_block index block o os None own h k e =
    let its = k e in record { order = its.0; within = omega (arith, its.1) }

-- the furthest block is an element inside the formatting element
pub block_inside : (index block : ℕ) (os : List OpenElement) →
    furthest_block index os ≡ Some block → IsInside index block os
block_inside index block [] h = absurd (none-some block h)
block_inside index block (o ∷ os) h = elim (cases_Bool (nat_le (length os) index)) [
  | inl e ↦ absurd (none-some block (rw e at h))
  | inr e ↦ either_block index block o os (furthest_block index os) _ (block_inside index block os)
      (own_block e (is_special o)) (rw e at h)
] where
  own_block : nat_le (length os) index ≡ false → (special : Bool) →
      (if special then Some (length os) else None) ≡ Some block →
      index < block × block ≡ length os
  own_block e true h = let same = same_Some (length os) block h in
      (omega (arith, same, leb-false (length os) index e), sym same)
  own_block e false h = absurd (none-some block h)

pub block_at : (index : ℕ) (os : List OpenElement) →
    IfSome (furthest_block index os) (λ block. IsInside index block os)
block_at index os = of_found (furthest_block index os) refl where
  of_found : (r : Option ℕ) → furthest_block index os ≡ r →
      IfSome r (λ block. IsInside index block os)
  of_found None h = tt
  of_found (Some block) h = block_inside index block os h
