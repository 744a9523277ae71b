-- A list of items and its last one.
use Rattle.std.proofs.Common.{◌≡◌, ℕ, ◌+◌, ◌-◌, ◌<◌, Bool, List, [], ◌∷◌, ◌++◌, length, get_or, take, refl, ap, sym, ◌∙◌, arith}
use Rattle.std.proofs.{Math.ListN.{set}, lemmas.List.{length-set, map-append, take_all, take_more, take_more_set}}
use Rattle.html_flow_convert.specs.{Items.{ItemView, RoleView}, Views.{pair_view, pairs_view}, declared.item.Pair.{Pair}}
use Rattle.html_flow_lists.specs.ItemLists.{Pairs, last_passes, with_changed_last}

last_passes_at : (test : ItemView × RoleView → Bool) (xs : Pairs) (x : ItemView × RoleView) →
    last_passes test (xs ++ x ∷ []) ≡ test x
last_passes_at test [] x = refl
last_passes_at test (y ∷ []) x = refl
last_passes_at test (y ∷ z ∷ xs) x = last_passes_at test (z ∷ xs) x

changed_at : (change : ItemView × RoleView → ItemView × RoleView) (xs : Pairs)
    (x : ItemView × RoleView) → with_changed_last change (xs ++ x ∷ []) ≡ xs ++ change x ∷ []
changed_at change [] x = refl
changed_at change (y ∷ []) x = refl
changed_at change (y ∷ z ∷ xs) x = ap (λ l. y ∷ l) (changed_at change (z ∷ xs) x)

-- pairs, how many they are, and the last of them
module _ (ps : List Pair) (n : ℕ) (counted : n ≡ length ps) (some : 0 < length ps) (p : Pair)
    (is : p ≡ get_or ps (n - 1) p) where
  abbrev front : List Pair
  front = take (n - 1) ps

  parted : ps ≡ front ++ p ∷ []
  parted =
      sym (take_all (n - 1 + 1) ps (omega arith))
      ∙ take_more ps (n - 1) p (omega arith)
      ∙ ap (λ q. front ++ q ∷ []) (sym is)

  changed : (q : Pair) → set ps (n - 1) q ≡ front ++ q ∷ []
  changed q =
      sym (take_all (n - 1 + 1) (set ps (n - 1) q) (omega (arith, length-set ps (n - 1) q)))
      ∙ take_more_set ps (n - 1) q (omega arith)

  seen : (qs : List Pair) (q : Pair) → qs ≡ front ++ q ∷ [] →
      pairs_view qs ≡ pairs_view front ++ pair_view q ∷ []
  seen qs q e = ap pairs_view e ∙ map-append pair_view front (q ∷ [])

  pub last_passes_is : (test : ItemView × RoleView → Bool) →
      last_passes test (pairs_view ps) ≡ test (pair_view p)
  last_passes_is test =
      ap (last_passes test) (seen ps p parted)
      ∙ last_passes_at test (pairs_view front) (pair_view p)

  pub changed_is : (change : ItemView × RoleView → ItemView × RoleView) (q : Pair) →
      pair_view q ≡ change (pair_view p) →
      pairs_view (set ps (n - 1) q) ≡ with_changed_last change (pairs_view ps)
  changed_is change q e =
      seen (set ps (n - 1) q) q (changed q)
      ∙ ap (λ x. pairs_view front ++ x ∷ []) e
      ∙ sym (ap (with_changed_last change) (seen ps p parted)
      ∙ changed_at change (pairs_view front) (pair_view p))

  pub kept_is : (q : Pair) → pair_view q ≡ pair_view p →
      pairs_view (set ps (n - 1) q) ≡ pairs_view ps
  kept_is q e =
      seen (set ps (n - 1) q) q (changed q)
      ∙ ap (λ x. pairs_view front ++ x ∷ []) e
      ∙ sym (seen ps p parted)
