-- Pairs that are listed by their keys: what a search finds, and what an edit at that place does.
-- Each pair is seen by
-- a view of what the list holds.
use Rattle.std.proofs.Common.{◌≡◌, ℕ, zero, suc, ◌+◌, ◌<◌, ◌≤◌, List, [], ◌∷◌, length, map, get_or, set, refl, ap, ◌∙◌, Bool, true, false, cond, arith}
use Rattle.std.proofs.lemmas.{Cmp.{tied_back}, List.Sorted.{searchable_from_sorted}, Map.Keys.{sorted_head, sorted_tail}}
use Rattle.std.specs.{BTreeMap.{insert_entry, is_at}, Cmp.{IsTotalOrder}, List.{AllByRecursion, AllWithin, HoldsAt, insert, remove}}
use Rattle.std.specs.{Map.{keys_of, remove_entry}, Ordering.{match_ordering, is_lt, ordering_reverse}}
use Rattle.std.specs.Prelude.{Result, Ok, Err, MatchResult}
use Rattle.std.specs.{List.Sorted.{IsStrictlySortedBy, IsBinarySearchResult, IsSearchInRange, IsSortedBy}, declared.cmp.Ordering.{Ordering}}
use Rattle.std.specs.declared.cmp.Ordering.TheVariants.{Less, Equal, Greater}
use Rattle.html_values_css.specs.Search.{IsFound, IsGap}

module _ {A K X : Type 0} {R : K → K → Ordering} (o : IsTotalOrder R) (f : A → K × X) where
  abbrev key : A → K
  key a = (f a).0

  abbrev Listed : List A → Type 0
  Listed l = IsStrictlySortedBy R (keys_of (map f l))

  turned : (x y : K) → R x y ≡ Less → R y x ≡ Greater
  turned x y h = o.antisymm y x ∙ ap ordering_reverse h

  turned_back : (x y : K) → R x y ≡ Greater → R y x ≡ Less
  turned_back x y h = o.antisymm y x ∙ ap ordering_reverse h

  at_index : (P : K → Type 0) (l : List A) (i : ℕ) (d : A) → AllByRecursion P (keys_of (map f l))
      → i < length l → P (key (get_or l i d))
  at_index P [] i d all h = absurd (omega (arith, h))
  at_index P (a ∷ l) zero d all h = all.0
  at_index P (a ∷ l) (suc i) d all h = at_index P l i d all.1 (omega (arith, h))

  adjacent : (l : List A) → Listed l → IsSortedBy (λ a b. is_lt (R (key a) (key b))) l
  adjacent [] s k d low high = absurd (omega (arith, high))
  adjacent (a ∷ l) s zero d low high =
      let below : R (key a) (key (get_or l 0 d)) ≡ Less =
      at_index (λ y. R (key a) y ≡ Less) l 0 d (sorted_head R (key a) (keys_of (map f l)) s)
      (omega (arith, high)) in
      ap is_lt (turned (key a) (key (get_or l 0 d)) below)
  adjacent (a ∷ l) s (suc k) d low high = let e : suc k + 1 ≡ suc (k + 1) = omega arith in
      rw e (adjacent l (sorted_tail R (key a) (keys_of (map f l)) s) k d (omega arith)
      (omega (arith, high)))

  before_found : (l : List A) (name : K) (at : ℕ) → Listed l → at < length l
      → HoldsAt (λ a. R name (key a) ≡ Equal) l at
      → AllWithin (λ a. R name (key a) ≡ Greater) l 0 at
  before_found [] name at sorted within equal k d low high = absurd (omega (arith, within))
  before_found (a ∷ l) name zero sorted within equal k d low high = absurd (omega (arith, high))
  before_found (a ∷ l) name (suc at) sorted within equal zero d low high =
      let here : R name (key (get_or l at d)) ≡ Equal = equal d in
      let below : R (key a) (key (get_or l at d)) ≡ Less =
      at_index (λ y. R (key a) y ≡ Less) l at d (sorted_head R (key a) (keys_of (map f l)) sorted)
      (omega (arith, within)) in
      o.congr name (key (get_or l at d)) (key a) here ∙ turned (key a) (key (get_or l at d)) below
  before_found (a ∷ l) name (suc at) sorted within equal (suc k) d low high =
      before_found l name at (sorted_tail R (key a) (keys_of (map f l)) sorted)
      (omega (arith, within)) equal k d (omega arith) (omega (arith, high))

  pub searched : (l : List A) (name : K) (r : Result ℕ ℕ) → Listed l → IsSearchInRange r (length l)
      → IsBinarySearchResult (λ a. R (key a) name) l r
      → MatchResult r (IsFound R key l name) (IsGap R key l name)
  searched l name (Ok at) sorted within answer =
      let here : HoldsAt (λ a. R name (key a) ≡ Equal) l at =
      λ d. tied_back o (key (get_or l at d)) name (answer d) in
      record { within = within; before = before_found l name at sorted within here; here = here }
  searched l name (Err at) sorted within answer =
      let parts = answer (searchable_from_sorted o key l name (adjacent l sorted)) in
      record {
        within = within;
        before = λ k d low high. turned (key (get_or l k d)) name (parts.0 k d low high);
        after = λ k d low high. turned_back (key (get_or l k d)) name (parts.1 k d low high);
      }

  before_tail : (a : A) (l : List A) (name : K) (at : ℕ)
      → AllWithin (λ a. R name (key a) ≡ Greater) (a ∷ l) 0 (suc at)
      → AllWithin (λ a. R name (key a) ≡ Greater) l 0 at
  before_tail a l name at b k d low high = b (suc k) d (omega arith) (omega (arith, high))

  -- a value in place of another
  pub put_found : (l : List A) (name : K) (x : X) (at : ℕ) (b d : A) → at < length l
      → AllWithin (λ a. R name (key a) ≡ Greater) l 0 at
      → HoldsAt (λ a. R name (key a) ≡ Equal) l at
      → f b ≡ (key (get_or l at d), x) → insert_entry R (map f l) name x ≡ map f (set l at b)
  put_found [] name x at b d within above equal value_is = absurd (omega (arith, within))
  put_found (a ∷ l) name x zero b d within above equal value_is = rw (equal a, value_is) refl
  put_found (a ∷ l) name x (suc at) b d within above equal value_is =
      rw (above 0 a (omega arith) (omega arith)) (ap (λ t. f a ∷ t)
      (put_found l name x at b d (omega (arith, within)) (before_tail a l name at above)
      equal value_is))

  -- a new pair in a gap
  pub put_gap : (l : List A) (at : ℕ) (b : A) → at ≤ length l
      → AllWithin (λ a. R (key b) (key a) ≡ Greater) l 0 at
      → AllWithin (λ a. R (key b) (key a) ≡ Less) l at (length l)
      → insert_entry R (map f l) (key b) (f b).1 ≡ map f (insert l at b)
  put_gap [] zero b within above below = refl
  put_gap [] (suc at) b within above below = absurd (omega (arith, within))
  put_gap (a ∷ l) zero b within above below = rw (below 0 a (omega arith) (omega arith)) refl
  put_gap (a ∷ l) (suc at) b within above below =
      rw (above 0 a (omega arith) (omega arith))
      (ap (λ t. f a ∷ t) (put_gap l at b (omega (arith, within)) (before_tail a l (key b) at above)
      (λ k d low high. below (suc k) d (omega (arith, low)) (omega (arith, high)))))

  pub drop_found : (l : List A) (name : K) (at : ℕ) → at < length l
      → AllWithin (λ a. R name (key a) ≡ Greater) l 0 at
      → HoldsAt (λ a. R name (key a) ≡ Equal) l at
      → remove_entry (is_at (R name)) (map f l) ≡ map f (remove l at)
  drop_found [] name at within above equal = absurd (omega (arith, within))
  drop_found (a ∷ l) name zero within above equal = rw (equal a) refl
  drop_found (a ∷ l) name (suc at) within above equal =
      rw (above 0 a (omega arith) (omega arith)) (ap (λ t. f a ∷ t)
      (drop_found l name at (omega (arith, within)) (before_tail a l name at above) equal))

  pub drop_gap : (l : List A) (name : K) (at : ℕ) → at ≤ length l
      → AllWithin (λ a. R name (key a) ≡ Greater) l 0 at
      → AllWithin (λ a. R name (key a) ≡ Less) l at (length l)
      → remove_entry (is_at (R name)) (map f l) ≡ map f l
  drop_gap [] name at within above below = refl
  drop_gap (a ∷ l) name zero within above below =
      rw (below 0 a (omega arith) (omega arith)) (ap (λ t. f a ∷ t)
      (drop_gap l name zero (omega arith) (λ k d low high. absurd (omega (arith, high)))
      (λ k d low high. below (suc k) d (omega arith) (omega (arith, high)))))
  drop_gap (a ∷ l) name (suc at) within above below =
      rw (above 0 a (omega arith) (omega arith))
      (ap (λ t. f a ∷ t) (drop_gap l name at (omega (arith, within)) (before_tail a l name at above)
      (λ k d low high. below (suc k) d (omega (arith, low)) (omega (arith, high)))))

module _ {K X : Type 0} {R : K → K → Ordering} (o : IsTotalOrder R) (name : K) (x : X) where
  every_key : (P : K → Type 0) (es : List (K × X)) → P name → AllByRecursion P (keys_of es)
      → AllByRecursion P (keys_of (insert_entry R es name x))
  every_key P [] p all = (p, tt)
  every_key P (e ∷ es) p all = by (R name e.0) (every_key P es p all.1)
    where
      by : (r : Ordering) → AllByRecursion P (keys_of (insert_entry R es name x))
          → AllByRecursion P (keys_of (match_ordering r ((name, x) ∷ e ∷ es) ((e.0, x) ∷ es)
          (e ∷ insert_entry R es name x)))
      by Less h = (p, all)
      by Equal h = all
      by Greater h = (all.0, h)

  below_all : (k : K) (ks : List K) → R name k ≡ Less → AllByRecursion (λ y. R k y ≡ Less) ks
      → AllByRecursion (λ y. R name y ≡ Less) ks
  below_all k [] h all = tt
  below_all k (y ∷ ks) h all = (o.trans name k y h all.0, below_all k ks h all.1)

  pub listed_with : (es : List (K × X)) → IsStrictlySortedBy R (keys_of es)
      → IsStrictlySortedBy R (keys_of (insert_entry R es name x))
  unfolding IsStrictlySortedBy
  listed_with [] s = (tt, tt)
  listed_with (e ∷ es) s = by (R name e.0) refl (listed_with es s.1)
    where
      by : (r : Ordering) → R name e.0 ≡ r → IsStrictlySortedBy R
          (keys_of (insert_entry R es name x)) → IsStrictlySortedBy R
          (keys_of (match_ordering r ((name, x) ∷ e ∷ es) ((e.0, x) ∷ es)
          (e ∷ insert_entry R es name x)))
      by Less q h = ((q, below_all e.0 (keys_of es) q s.0), s)
      by Equal q h = s
      by Greater q h = (
        every_key (λ y. R e.0 y ≡ Less) es
            (o.antisymm e.0 name ∙ ap ordering_reverse q) s.0,
        h,
      )

module _ {K X : Type 0} (R : K → K → Ordering) (name : K) where
  fewer_keys : (P : K → Type 0) (es : List (K × X)) → AllByRecursion P (keys_of es)
      → AllByRecursion P (keys_of (remove_entry (is_at (R name)) es))
  fewer_keys P [] all = tt
  fewer_keys P (e ∷ es) all = by (is_at (R name) e.0) (fewer_keys P es all.1)
    where
      by : (b : Bool) → AllByRecursion P (keys_of (remove_entry (is_at (R name)) es))
          → AllByRecursion P (keys_of (cond b es (e ∷ remove_entry (is_at (R name)) es)))
      by true h = all.1
      by false h = (all.0, h)

  pub listed_without : (es : List (K × X)) → IsStrictlySortedBy R (keys_of es)
      → IsStrictlySortedBy R (keys_of (remove_entry (is_at (R name)) es))
  unfolding IsStrictlySortedBy
  listed_without [] s = tt
  listed_without (e ∷ es) s = by (is_at (R name) e.0) (listed_without es s.1)
    where
      by : (b : Bool) → IsStrictlySortedBy R (keys_of (remove_entry (is_at (R name)) es))
          → IsStrictlySortedBy R (keys_of (cond b es (e ∷ remove_entry (is_at (R name)) es)))
      by true h = s.1
      by false h = (fewer_keys (λ y. R e.0 y ≡ Less) es s.0, h)
