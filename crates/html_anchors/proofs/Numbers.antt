-- The first free number, and that its name is free.
use Rattle.std.proofs.Common.{◌≡◌, ℕ, zero, suc, ◌+◌, ◌-◌, ◌<◌, ◌≤◌, ◌^◌, Bool, true, false, List, [], ◌∷◌, ◌++◌, length, Option, Some, None, inl, inr, codes, bytes_eq, refl, ap, sym, ◌∙◌, arith}
use Rattle.std.proofs.lemmas.{Bool.{cases_Bool, cases_eq, cases_lt, false_from_ne_true}, Fmt.{decimal_injective}, List.{append_cancel_left}}
use Rattle.std.specs.Prelude.{if◌then◌else◌, decimal}
use Rattle.html_names_core.{proofs.Basics.{bytes_eq-same}, specs.Names.{stands_in}}
use Rattle.html_links.specs.TreeNames.{Name}
use Rattle.html_anchors.specs.{Fresh.{IsFirstFree}, NewNames.{name_with_number, stem_of, first_number, first_free, free_name, new_name}}
use Rattle.html_anchors.specs.NumberedNames.{AreUsedBelow, IsBounded}

-- the names without the first that is this one
abbrev without : Name → List Name → List Name
without x [] = []
without x (n ∷ ns) = if bytes_eq n x then ns else n ∷ without x ns

length-without : (x : Name) (ns : List Name) → stands_in ns x ≡ true →
    length ns ≡ suc (length (without x ns))
unfolding stands_in
length-without x [] e = cc
length-without x (n ∷ ns) e = elim (cases_Bool (bytes_eq n x)) [
  | inl s ↦ rw s refl
  | inr s ↦ rw s (ap suc (length-without x ns (rw s at e)))
]

still_among : (x y : Name) (ns : List Name) → (x ≡ y → ⊥) → stands_in ns y ≡ true →
    stands_in (without x ns) y ≡ true
unfolding stands_in
still_among x y [] other e = e
still_among x y (n ∷ ns) other e = elim (cases_Bool (bytes_eq n x)) [
  | inl s ↦ elim (cases_Bool (bytes_eq n y)) [
    | inl t ↦ absurd (other (sym (bytes_eq-same n x s) ∙ bytes_eq-same n y t))
    | inr t ↦ rw s (rw t at e)
  ]
  | inr s ↦ rw s (elim (cases_Bool (bytes_eq n y)) [
    | inl t ↦ rw t refl
    | inr t ↦ rw t (still_among x y ns other (rw t at e))
  ])
]

-- the numbers from `n` on, one more than `tries`, are all in use
abbrev AllAmong : Name → List Name → (tries n : ℕ) → Type 0
AllAmong stem names zero n = stands_in names (name_with_number stem n) ≡ true
AllAmong stem names (suc t) n =
    (stands_in names (name_with_number stem n) ≡ true) × AllAmong stem names t (suc n)

differ : (stem : Name) (m n : ℕ) → m < n → n < 2 ^ 64 →
    name_with_number stem m ≡ name_with_number stem n → ⊥
differ stem m n l b e =
    let ends = append_cancel_left stem (codes "-" ++ decimal m) (codes "-" ++ decimal n) e in
    let same : m ≡ n = decimal_injective m n (omega arith) b
    (append_cancel_left (codes "-") (decimal m) (decimal n) ends) in
    omega arith

all_still_among : (stem : Name) (names : List Name) (t m n : ℕ) → m < n → n + t < 2 ^ 64 →
    AllAmong stem names t n → AllAmong stem (without (name_with_number stem m) names) t n
all_still_among stem names zero m n l b h =
    still_among _ _ names (differ stem m n l (omega arith)) h
all_still_among stem names (suc t) m n l b h = (
  still_among _ _ names (differ stem m n l (omega arith)) h.0,
  all_still_among stem names t m (suc n) (omega arith) (omega arith) h.1,
)

-- so many names do not stand in a short list
fewer : (stem : Name) (names : List Name) (t n : ℕ) → n + t < 2 ^ 64 →
    AllAmong stem names t n → t < length names
fewer stem names zero n b h = let e = length-without _ names h in omega (arith, e)
fewer stem names (suc t) n b h =
    let e = length-without _ names h.0 in
    let l = fewer stem (without (name_with_number stem n) names) t (suc n) (omega arith)
    (all_still_among stem names t n (suc n) (omega arith) (omega arith) h.1) in
    omega (arith, e, l)

pub first_is_low : (label : Name) → first_number label ≤ 2
first_is_low [] = omega arith
first_is_low (c ∷ cs) = omega arith

module _ (stem : Name) (used : Name → Bool) where
  all_tried : (b : IsBounded used) (t n : ℕ) →
      used (name_with_number stem (first_free stem used t n)) ≡ true → AllAmong stem b.names t n
  unfolding first_free
  all_tried b zero n e = b.holds (name_with_number stem n) e
  all_tried b (suc t) n e = elim (cases_Bool (used (name_with_number stem n))) [
    | inl s ↦ (b.holds (name_with_number stem n) s, all_tried b t (suc n) (rw (s, first_free) at e))
    | inr s ↦ let free = rw (s, first_free) at e in cc
  ]

  pub below_first : (t start m : ℕ) → start ≤ m → m < first_free stem used t start →
      used (name_with_number stem m) ≡ true
  unfolding first_free
  below_first zero start m a b = absurd (omega arith)
  below_first (suc t) start m a b = elim (cases_Bool (used (name_with_number stem start))) [
    | inl s ↦ elim (cases_eq start m) [
      | inl e ↦ rw (← e) s
      | inr other ↦ below_first t (suc start) m (omega arith) (rw (s, first_free) at b)
    ]
    | inr s ↦ let low = rw (s, first_free) at b in absurd (omega (arith, low))
  ]

  -- numbers that are known to be in use need not be tried again
  pub first_free_from : (t start from limit : ℕ) → start ≤ from → limit ≡ start + t → from ≤ limit →
      ((m : ℕ) → start ≤ m → m < from → used (name_with_number stem m) ≡ true) →
      first_free stem used t start ≡ first_free stem used (limit - from) from
  unfolding first_free
  first_free_from zero start from limit a e b below =
      let same : from ≡ start = omega (arith, a, e, b) in
      let none : limit - from ≡ 0 = omega (arith, a, e, b) in
      rw (none, same) refl
  first_free_from (suc t) start from limit a e b below = elim (cases_lt start from) [
    | inl l ↦ rw (below start (omega arith) l, first_free) (first_free_from t (suc start) from limit l
        (omega (arith, e)) b (λ m g. below m (omega (arith, g))))
    | inr l ↦
        let same : from ≡ start = omega (arith, a, l) in
        let left : limit - from ≡ suc t = omega (arith, e, same) in
        rw (left, same) refl
  ]

  -- where the search may end
  at_least : (t n : ℕ) → n ≤ first_free stem used t n
  unfolding first_free
  at_least zero n = omega arith
  at_least (suc t) n = elim (cases_Bool (used (name_with_number stem n))) [
    | inl s ↦ rw (s, first_free) (omega (arith, at_least t (suc n)))
    | inr s ↦ rw (s, first_free) (omega arith)
  ]

  pub free_within : (t n : ℕ) → first_free stem used t n ≤ n + t
  unfolding first_free
  free_within zero n = omega arith
  free_within (suc t) n = elim (cases_Bool (used (name_with_number stem n))) [
    | inl s ↦ rw (s, first_free) (omega (arith, free_within t (suc n)))
    | inr s ↦ rw (s, first_free) (omega arith)
  ]

  -- one step of the search
  module _ (limit n : ℕ) where
    step_left : n < limit → limit - n ≡ suc (limit - (n + 1))
    step_left l = omega (arith, l)

    pub free_here : n < limit → used (name_with_number stem n) ≡ false →
        first_free stem used (limit - n) n ≡ n
    unfolding first_free
    free_here l e = rw (step_left l) (rw (e, first_free) refl)

    pub taken_here : n < limit → used (name_with_number stem n) ≡ true →
        first_free stem used (limit - n) n ≡ first_free stem used (limit - (n + 1)) (n + 1)
    unfolding first_free
    taken_here l e =
        let next : suc n ≡ n + 1 = omega arith in
        rw (step_left l) (rw (e, first_free) (ap (first_free stem used (limit - (n + 1))) next))

    pub none_left : limit ≤ n → n ≤ limit → first_free stem used (limit - n) n ≡ limit
    unfolding first_free
    none_left l k =
        let none : limit - n ≡ 0 = omega (arith, l) in
        let same : n ≡ limit = omega (arith, l, k) in
        rw none same

module _ (label : Name) (used : Name → Bool) where
  free_is_new : IsBounded used → used (free_name label used) ≡ false
  free_is_new b = false_from_ne_true _ (λ e.
      let l = first_is_low label in
      let all = all_tried (stem_of label) used b (2 ^ 63) (first_number label) e in
      let k = fewer (stem_of label) b.names (2 ^ 63) (first_number label) (omega (arith, l)) all in
      omega (arith, k, b.few))

  pub used_below_found : AreUsedBelow used label
      (first_free (stem_of label) used (2 ^ 63) (first_number label))
  used_below_found = record {
    from_first = at_least (stem_of label) used (2 ^ 63) _;
    within = free_within (stem_of label) used (2 ^ 63) _;
    below = below_first (stem_of label) used (2 ^ 63) _;
  }

  -- a search from a number below which all are in use finds the same
  pub found_from : (from : ℕ) → AreUsedBelow used label from → let first = first_number label in
      first_free (stem_of label) used (2 ^ 63) first
      ≡ first_free (stem_of label) used (first + 2 ^ 63 - from) from
  found_from from so =
      first_free_from _ used (2 ^ 63) _ from _ so.from_first refl so.within so.below

  pub none_below_first : AreUsedBelow used label (first_number label)
  none_below_first = record {
    from_first = omega arith;
    within = omega arith;
    below = λ m l k. absurd (omega (arith, l, k));
  }

  pub used_below_more : (more : Name → Bool) (number : ℕ) →
      ((m : Name) → used m ≡ true → more m ≡ true) →
      AreUsedBelow used label number → AreUsedBelow more label number
  used_below_more more number grows so = record {
    from_first = so.from_first;
    within = so.within;
    below = λ m l k. grows _ (so.below m l k);
  }

pub new_is_new : (label : Option Name) (used : Name → Bool) → IsBounded used →
    used (new_name label used) ≡ false
unfolding new_name
new_is_new None used b = free_is_new [] used b
new_is_new (Some []) used b = free_is_new [] used b
new_is_new (Some (c ∷ cs)) used b = elim (cases_Bool (used (c ∷ cs))) [
  | inl e ↦ rw e (free_is_new (c ∷ cs) used b)
  | inr e ↦ rw e e
]

pub is_first_free : IsFirstFree
is_first_free label used b = (free_is_new label used b, below_first _ used (2 ^ 63) _)
