-- The names of a tree, listed one after the other, and then put in use.
use Rattle.std.proofs.Common.{◌≡◌, ℕ, suc, ◌+◌, ◌<◌, ◌≤◌, Bool, true, false, ◌||◌, List, [], ◌∷◌, ◌++◌, length, get_or, drop, refl, ap, sym, ◌∙◌, bytes_eq, append_assoc, add-one, drop-cons}
use Rattle.std.proofs.{Math.Bool.{or-false, or_assoc}, Math.Path.{fun_ext}, lemmas.List.{append-nil, drop_all}}
use Rattle.std.specs.Prelude.{if◌then◌else◌, codes}
use Rattle.html_names_core.specs.Names.{stands_in}
use Rattle.html_dom_tree.specs.Tree.{TextPair}
use Rattle.html_links.specs.{TreeNames.{Name, with_used_name, all_ids}, UsedNames.{with_names}}

or-swap : (a b c : Bool) → ((a || b) || c) ≡ (b || (a || c))
or-swap true true c = refl
or-swap true false c = refl
or-swap false true c = refl
or-swap false false c = refl

pub with-none : (used : Name → Bool) → with_names [] used ≡ used
unfolding stands_in
with-none used = refl

pub with-one : (n : Name) (used : Name → Bool) → with_names (n ∷ []) used ≡ with_used_name n used
unfolding stands_in
with-one n used = fun_ext (λ m. or_assoc (bytes_eq n m) false (used m))

pub stands-append : (as' bs : List Name) (n : Name) →
    stands_in (as' ++ bs) n ≡ (stands_in as' n || stands_in bs n)
unfolding stands_in
stands-append [] bs n = refl
stands-append (a ∷ as') bs n =
    ap (λ b. bytes_eq a n || b) (stands-append as' bs n)
    ∙ sym (or_assoc (bytes_eq a n) (stands_in as' n) (stands_in bs n))

pub with-append : (as' bs : List Name) (used : Name → Bool) →
    with_names (as' ++ bs) used ≡ with_names bs (with_names as' used)
with-append as' bs used = fun_ext (λ n.
    ap (λ b. b || used n) (stands-append as' bs n)
    ∙ or-swap (stands_in as' n) (stands_in bs n) (used n))

pub with-all : (names : List Name) → with_names names (stands_in []) ≡ stands_in names
unfolding stands_in
with-all names = fun_ext (λ n. or-false (stands_in names n))

pub with-more : (n : Name) (ns : List Name) (used : Name → Bool) →
    with_names (n ∷ ns) used ≡ with_names ns (with_used_name n used)
with-more n ns used = with-append (n ∷ []) ns used ∙ ap (with_names ns) (with-one n used)

-- one thing more of a list, by the names of each
module _ {A : Type 0} (names : List A → List Name)
    (splits : (x : A) (xs : List A) → names (x ∷ xs) ≡ names (x ∷ []) ++ names xs) where
  pub gathered : (xs : List A) (i : ℕ) (d : A) (old new all : List Name) → i < length xs →
      old ++ names (drop i xs) ≡ all → new ≡ old ++ names (get_or xs i d ∷ []) →
      new ++ names (drop (i + 1) xs) ≡ all
  gathered xs i d old new all h so_far more =
      let x = get_or xs i d in
      let rest = drop (suc i) xs in
      rw (add-one, more)
      (append_assoc old (names (x ∷ [])) (names rest)
      ∙ (ap (λ ns. old ++ ns) (sym (splits x rest))
      ∙ (ap (λ ys. old ++ names ys) (sym (drop-cons xs i d h)) ∙ so_far)))

  pub gathered_all : names [] ≡ [] → (xs : List A) (i : ℕ) (old all : List Name) →
      length xs ≤ i → old ++ names (drop i xs) ≡ all → old ≡ all
  gathered_all none_named xs i old all h e =
      sym (append-nil old)
      ∙ (ap (λ ns. old ++ ns) (sym none_named)
      ∙ (ap (λ ys. old ++ names ys) (sym (drop_all i xs h)) ∙ e))

pub ids_split : (p : TextPair) (ps : List TextPair) →
    all_ids (p ∷ ps) ≡ all_ids (p ∷ []) ++ all_ids ps
ids_split p ps = by_name (bytes_eq p.0 (codes "id"))
  where
    by_name : (b : Bool) → (if b then p.1 ∷ all_ids ps else all_ids ps)
        ≡ (if b then p.1 ∷ [] else []) ++ all_ids ps
    by_name true = refl
    by_name false = refl
