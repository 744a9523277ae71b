-- Lists of names in which none comes twice, by how often each comes, and by what is in use already.
use Rattle.std.proofs.Common.{◌≡◌, ℕ, ◌+◌, ◌≤◌, Bool, true, false, not, ◌||◌, ◌&&◌, List, [], ◌∷◌, ◌++◌, cond, bytes_eq, refl, ap, sym, ◌∙◌, arith}
use Rattle.std.proofs.lemmas.{Bool.{and_parts, not-true}, List.Sums.{sum_by-append, sum_by-cons}, Slice.Eq.{bytes_eq-Decides}}
use Rattle.html_names_core.{proofs.Basics.{bytes_eq-same, bytes_eq-sym}, specs.Names.{stands_in}}
use Rattle.html_links.specs.{Distinct.{are_distinct, occurrences}, TreeNames.{Name, with_used_name}}

abbrev pub one_if : Bool → ℕ
one_if b = cond b 1 0

pub occurrences-none : (n : Name) → occurrences [] n ≡ 0
unfolding occurrences
occurrences-none n = refl

pub occurrences-cons : (m : Name) (ms : List Name) (n : Name) →
    occurrences (m ∷ ms) n ≡ cond (bytes_eq m n) 1 0 + occurrences ms n
unfolding occurrences
occurrences-cons m ms n = sum_by-cons _ m ms

pub occurrences-append : (as' bs : List Name) (n : Name) →
    occurrences (as' ++ bs) n ≡ occurrences as' n + occurrences bs n
unfolding occurrences
occurrences-append as' bs n = sum_by-append _ as' bs

pub at_most_one : (b : Bool) → cond b 1 0 ≤ 1
at_most_one true = omega arith
at_most_one false = omega arith

pub stands_occurs : (ns : List Name) (n : Name) → stands_in ns n ≡ true → 1 ≤ occurrences ns n
unfolding stands_in
stands_occurs [] n e = cc
stands_occurs (m ∷ ms) n e = by (bytes_eq m n) refl e (stands_occurs ms n)
  where
    by : (b : Bool) → bytes_eq m n ≡ b → (b || stands_in ms n) ≡ true →
        (stands_in ms n ≡ true → 1 ≤ occurrences ms n) → 1 ≤ occurrences (m ∷ ms) n
    by true is e so = omega (arith, occurrences-cons m ms n, ap one_if is)
    by false is e so = omega (arith, occurrences-cons m ms n, so e)

pub distinct_once : (ns : List Name) (n : Name) → are_distinct ns ≡ true →
    occurrences ns n ≤ cond (stands_in ns n) 1 0
unfolding stands_in are_distinct
distinct_once [] n d = omega (arith, occurrences-none n)
distinct_once (m ∷ ms) n d =
    let parts = and_parts (not (stands_in ms m)) (are_distinct ms) d in
    by (bytes_eq m n) refl parts.0 (distinct_once ms n parts.1)
  where
    by : (b : Bool) → bytes_eq m n ≡ b → not (stands_in ms m) ≡ true →
        occurrences ms n ≤ cond (stands_in ms n) 1 0 →
        occurrences (m ∷ ms) n ≤ cond (b || stands_in ms n) 1 0
    by true is new so =
        let gone : stands_in ms n ≡ false =
        ap (stands_in ms) (sym (bytes_eq-same m n is)) ∙ not-true (stands_in ms m) new in
        omega (
          arith,
          occurrences-cons m ms n,
          ap one_if is,
          so,
          ap one_if gone,
        )
    by false is new so =
        omega (arith, occurrences-cons m ms n, ap one_if is, so)

pub once_distinct : (ns : List Name) → ((n : Name) → occurrences ns n ≤ 1) → are_distinct ns ≡ true
unfolding are_distinct
once_distinct [] once = refl
once_distinct (m ∷ ms) once =
    by (stands_in ms m) refl
    (once_distinct ms (λ n. omega (arith, once n, occurrences-cons m ms n)))
  where
    by : (b : Bool) → stands_in ms m ≡ b → are_distinct ms ≡ true →
        (not b && are_distinct ms) ≡ true
    by true is so =
        let here = ap one_if ((bytes_eq-Decides m m).1 refl) in
        absurd (omega (arith, once m, occurrences-cons m ms m, here, stands_occurs ms m is))
    by false is so = so

-- each name is none of those in use, nor of those before it
abbrev pub are_new : (used : Name → Bool) → List Name → Bool
are_new used [] = true
are_new used (n ∷ ns) = not (used n) && are_new (with_used_name n used) ns

abbrev none_used : (used : Name → Bool) → List Name → Bool
none_used used [] = true
none_used used (n ∷ ns) = not (used n) && none_used used ns

none_used-more : (m : Name) (used : Name → Bool) (ns : List Name) →
    none_used (with_used_name m used) ns ≡ (not (stands_in ns m) && none_used used ns)
unfolding stands_in
none_used-more m used [] = refl
none_used-more m used (n ∷ ns) =
    rw (none_used-more m used ns, bytes_eq-sym m n)
    (by (bytes_eq n m) (used n) (stands_in ns m) (none_used used ns))
  where
    by : (same there stands rest : Bool) →
        (not (same || there) && (not stands && rest))
        ≡ (not (same || stands) && (not there && rest))
    by true there stands rest = refl
    by false true true rest = refl
    by false true false rest = refl
    by false false true rest = refl
    by false false false rest = refl

are_new-parts : (used : Name → Bool) (ns : List Name) →
    are_new used ns ≡ (none_used used ns && are_distinct ns)
unfolding are_distinct
are_new-parts used [] = refl
are_new-parts used (n ∷ ns) =
    ap (λ b. not (used n) && b)
    (are_new-parts (with_used_name n used) ns
    ∙ ap (λ b. b && are_distinct ns) (none_used-more n used ns))
    ∙ by (used n) (stands_in ns n) (none_used used ns) (are_distinct ns)
  where
    by : (there stands rest differ : Bool) →
        (not there && ((not stands && rest) && differ))
        ≡ ((not there && rest) && (not stands && differ))
    by true stands rest differ = refl
    by false true true differ = refl
    by false true false differ = refl
    by false false true differ = refl
    by false false false differ = refl

nothing_used : (ns : List Name) → none_used (stands_in []) ns ≡ true
unfolding stands_in
nothing_used [] = refl
nothing_used (n ∷ ns) = nothing_used ns

pub new_distinct : (ns : List Name) → are_new (stands_in []) ns ≡ are_distinct ns
new_distinct ns =
    are_new-parts (stands_in []) ns ∙ ap (λ b. b && are_distinct ns) (nothing_used ns)
