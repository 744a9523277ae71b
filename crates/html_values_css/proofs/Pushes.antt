-- Pushes as steps of a finite map, and that their order does not matter.
use Rattle.std.proofs.Common.{◌≡◌, arith, ℕ, length, List, [], ◌∷◌, Bool, true, false, cond, ◌&&◌, bytes_eq, Option, Some, None, refl, sym, ap, ◌∙◌, subst, is_some, true≢false}
use Rattle.std.proofs.lemmas.{Cmp.{tied_itself, eq_by_cmp_equiv}, Map.{lookup-none, lookup-remove_entry}}
use Rattle.std.proofs.lemmas.{Option.{slice_get_within, slice_get_read, get_or_from_slice_get}, Str.{encodes_same}}
use Rattle.std.proofs.lemmas.List.Sorted.{IsPermutation-map, IsPermutation-sym, Contains-permutation}
use Rattle.std.proofs.lemmas.Map.Entries.{place_from_lookup, lookup_from_place, none_past_head}
use Rattle.std.proofs.lemmas.Map.Keys.{IsDistinct-from_sorted, IsDistinct-IsPermutation, IsDistinct-tail, sorted_head, sorted_tail}
use Rattle.std.proofs.lemmas.{Map.Lookups.{exact_bytes}, Slice.Eq.{bytes_eq-Decides}}
use Rattle.std.specs.{BTreeMap.{is_at}, Bool.{Decides, one_answer}, Cmp.{IsEquivalence, Equal-is}}
use Rattle.std.specs.{List.{AllByRecursion, IsDistinct, Contains}, Map.{keys_of, lookup}, Option.{option_or}}
use Rattle.std.specs.{Ordering.{eq_by_cmp, match_ordering}, Prelude.{T}}
use Rattle.std.specs.{FinMap.Entries.{find, put, is_sorted, below_all, by_order, find-put, same_entries}, List.Sorted.{IsPermutation}}
use Rattle.std.specs.declared.cmp.{Ordering.{Ordering}, Ordering.TheVariants.{Less, Equal, Greater}}
use lib.Utf8.{encodes}
use Rattle.html_names_core.specs.Texts.{TextPair}
use Rattle.html_values_css.proofs.{Listing.{listed_with}, Names.{by_name_total}}
use Rattle.html_values_css.specs.Properties.{by_name, IsListed, value_of, with_property, inline_text}
use Rattle.html_values_css.specs.PropertyLaws.{properties_after, AnyOrder, PushSets, RemoveClears, ValuesDecide}

-- names compare alike where they are equal
exact : (a b : List ℕ) → by_name a b ≡ Equal → a ≡ b
exact a b h = encodes_same a b (exact_bytes (encodes a) (encodes b) h)

ties_decide : (a b : List ℕ) → Decides (eq_by_cmp by_name a b) (a ≡ b)
ties_decide a b = (
  λ h. exact a b ((Equal-is (by_name a b)).0 h),
  λ e. (Equal-is (by_name a b)).1 (subst (λ c. by_name a c ≡ Equal) e
      (tied_itself by_name_total a)),
)

same_test : (a b : List ℕ) → eq_by_cmp by_name a b ≡ bytes_eq a b
same_test a b = one_answer (eq_by_cmp by_name a b) (bytes_eq a b) (ties_decide a b)
    (bytes_eq-Decides a b)

-- the words of finite maps
find_is : (ps : List TextPair) (q : List ℕ) → find by_name q ps ≡ value_of ps q
find_is [] q = refl
find_is (p ∷ ps) q = ap (cond (eq_by_cmp by_name q p.0) (Some p.1)) (find_is ps q)

chosen : {A : Type 0} (r : Ordering) (a b c : A) → by_order r a b c ≡ match_ordering r a b c
chosen Less a b c = refl
chosen Equal a b c = refl
chosen Greater a b c = refl

put_is : (ps : List TextPair) (k v : List ℕ) → put by_name k v ps ≡ with_property ps k v
put_is [] k v = refl
put_is (p ∷ ps) k v = ap (λ t. by_order (by_name k p.0) ((k, v) ∷ p ∷ ps) ((p.0, v) ∷ ps) (p ∷ t))
    (put_is ps k v) ∙ chosen (by_name k p.0) ((k, v) ∷ p ∷ ps) ((p.0, v) ∷ ps)
    (p ∷ with_property ps k v)

pub push_sets : PushSets
push_sets ps k v q =
    sym (find_is (with_property ps k v) q) ∙ ap (find by_name q) (sym (put_is ps k v))
    ∙ find-put by_name by_name_total q k v ps
    ∙ ap (λ b. cond b (Some v) (find by_name q ps)) (same_test q k)
    ∙ ap (cond (bytes_eq q k) (Some v)) (find_is ps q)

all_below : (k : List ℕ) (ps : List TextPair)
    → AllByRecursion (λ y. by_name k y ≡ Less) (keys_of ps) → T (below_all by_name k ps)
all_below k [] h = tt
all_below k (p ∷ ps) h = rw h.0 (all_below k ps h.1)

in_order : (ps : List TextPair) → IsListed ps → T (is_sorted by_name ps)
in_order [] s = tt
in_order (p ∷ ps) s = both _ _ (all_below p.0 ps (sorted_head by_name p.0 (keys_of ps) s))
    (in_order ps (sorted_tail by_name p.0 (keys_of ps) s))
  where
    both : (a b : Bool) → T a → T b → T (a && b)
    both true b x y = y
    both false b x y = absurd x

pub values_decide : ValuesDecide
values_decide a b s t h = same_entries by_name by_name_total exact a b (in_order a s) (in_order b t)
    (λ q. find_is a q ∙ (h q ∙ sym (find_is b q)))

ties_equiv : IsEquivalence (eq_by_cmp by_name)
ties_equiv = eq_by_cmp_equiv by_name_total

pub remove_clears : RemoveClears
remove_clears ps k q s =
    lookup-remove_entry ties_equiv (eq_by_cmp by_name k) (λ x y h. ties_equiv.congr k x y h) q ps
    (IsDistinct-from_sorted by_name (keys_of ps) s)
    ∙ ap (λ b. cond b None (value_of ps q)) (ties_equiv.symm k q ∙ same_test q k)

set_to : (ps : List TextPair) (p : TextPair) (q : List ℕ) → value_of (with_property ps p.0 p.1) q
    ≡ cond (eq_by_cmp by_name q p.0) (Some p.1) (value_of ps q)
set_to ps p q = push_sets ps p.0 p.1 q ∙ ap (λ b. cond b (Some p.1) (value_of ps q))
    (sym (same_test q p.0))

last_value : (ps : List TextPair) (old : List TextPair) (q : List ℕ)
    → IsDistinct (eq_by_cmp by_name) (keys_of ps) → value_of (properties_after old ps) q
    ≡ option_or (value_of ps q) (value_of old q)
last_value [] old q d = refl
last_value (p ∷ ps) old q d =
    let absent : eq_by_cmp by_name q p.0 ≡ true → value_of ps q ≡ None
    = λ h. lookup-none (is_at (by_name q)) ps (none_past_head ties_equiv q p ps d h) in
    last_value ps (with_property old p.0 p.1) q (IsDistinct-tail (eq_by_cmp by_name) p.0 (keys_of ps)
    d) ∙ ap (option_or (value_of ps q)) (set_to old p q) ∙ grind (arith, absent)

still_listed : (ps old : List TextPair) → IsListed old → IsListed (properties_after old ps)
still_listed [] old s = s
still_listed (p ∷ ps) old s = still_listed ps (with_property old p.0 p.1)
    (listed_with by_name_total p.0 p.1 old s)

-- a value in one order is the value in another
found_in_both : (ps qs : List TextPair) (q v : List ℕ) → IsDistinct (eq_by_cmp by_name) (keys_of qs)
    → IsPermutation ps qs → value_of ps q ≡ Some v → value_of qs q ≡ Some v
found_in_both ps qs q v distinct permuted found =
    let there = place_from_lookup (eq_by_cmp by_name q) ps v found in
    let name = there.1 in
    let inside : Contains ps (name, v) = (
      there.0,
      slice_get_within ps there.0 (name, v) there.2,
      get_or_from_slice_get ps there.0 (name, v) (name, v) there.2,
    ) in
    let here = Contains-permutation ps qs (name, v) permuted inside in
    let same : eq_by_cmp by_name q ≡ eq_by_cmp by_name name =
    λ i z. ties_equiv.congr q name z there.3 i in
    ap (λ t. lookup t qs) same ∙ lookup_from_place ties_equiv qs here.0 name v distinct
    (slice_get_read qs (length qs) here.0 (name, v) refl here.1 (sym here.2))

some_none : (v : List ℕ) → Some v ≡ None → ⊥
some_none v e = true≢false (ap is_some e)

alike : (ps qs : List TextPair) (q : List ℕ) → IsDistinct (eq_by_cmp by_name) (keys_of ps)
    → IsDistinct (eq_by_cmp by_name) (keys_of qs) → IsPermutation ps qs → value_of ps q
    ≡ value_of qs q
alike ps qs q d c h = by (value_of ps q) (value_of qs q) refl refl
  where
    by : (a b : Option (List ℕ)) → value_of ps q ≡ a → value_of qs q ≡ b → value_of ps q
        ≡ value_of qs q
    by (Some v) b e f = e ∙ sym (found_in_both ps qs q v c h e)
    by None None e f = e ∙ sym f
    by None (Some v) e f = absurd (some_none v (sym
        (found_in_both qs ps q v d (IsPermutation-sym ps qs h) f) ∙ e))

pub any_order : AnyOrder
any_order old ps qs listed distinct permuted =
    let distinct_ps : IsDistinct (eq_by_cmp by_name) (keys_of ps) =
    subst (λ (e : List ℕ → List ℕ → Bool). IsDistinct e (keys_of ps))
    (λ i a b. sym (same_test a b) i) distinct in
    let distinct_qs : IsDistinct (eq_by_cmp by_name) (keys_of qs) =
    IsDistinct-IsPermutation (eq_by_cmp by_name) ties_equiv.symm (keys_of ps) (keys_of qs)
    (IsPermutation-map (λ (p : TextPair). p.0) ps qs permuted) distinct_ps in
    let same : properties_after old ps ≡ properties_after old qs = values_decide (properties_after old ps) (properties_after old qs)
    (still_listed ps old listed) (still_listed qs old listed)
    (λ q. last_value ps old q distinct_ps
    ∙ ap (λ o. option_or o (value_of old q)) (alike ps qs q distinct_ps distinct_qs permuted)
    ∙ sym (last_value qs old q distinct_qs)) in
    (same, ap inline_text same)
