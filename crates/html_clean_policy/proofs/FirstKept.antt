-- The first attributes that stay, one after the other, and texts of which nothing stays.
use Rattle.std.proofs.Common.{◌≡◌, ℕ, ◌<◌, ◌≤◌, ◌+◌, ◌-◌, zero, suc, List, [], ◌∷◌, ◌++◌, Option, Some, None, ap, arith, chars, drop, get_or, length, map, refl, sym, ◌∙◌, subst, take}
use Rattle.std.proofs.lemmas.{List.{append-nil, append_assoc, length-append}, Str.{chars-nil, encodes-chars}}
use Rattle.std.specs.{List.{cons_option, filter_map}, Prelude.{option_to_list}, Str.{IsUtf8}}
use lib.Utf8.{encodes}
use Rattle.html_names_core.{proofs.Basics.{from_place}, specs.Texts.{TextPair}}
use Rattle.html_dom_tree.{proofs.Attributes.{Item}, specs.Views.{pair_view}}
use Rattle.html_clean_policy.specs.KeptAttrs.{unless_empty}

take_one : {A : Type 0} (k : ℕ) (x : A) (rest : List A) → 0 < k →
    take k (x ∷ rest) ≡ x ∷ take (k - 1) rest
take_one zero x rest some = absurd (omega (arith, some))
take_one (suc k) x rest some = ap (λ n. x ∷ take n rest) (omega arith)

one_more : (most : ℕ) (done rest : List TextPair) (o : Option TextPair) → length done < most →
    (done ++ option_to_list o) ++ take (most - length (done ++ option_to_list o)) rest
    ≡ done ++ take (most - length done) (cons_option o rest)
one_more most done rest None below =
    ap (λ xs. xs ++ take (most - length xs) rest) (append-nil done)
one_more most done rest (Some x) below =
    let long : length (done ++ x ∷ []) ≡ length done + 1 = length-append done (x ∷ []) in
    let less : most - length (done ++ x ∷ []) ≡ most - length done - 1 = omega (arith, long) in
    append_assoc done (x ∷ []) (take (most - length (done ++ x ∷ [])) rest)
    ∙ ap (λ xs. done ++ xs) (ap (λ n. x ∷ take n rest) less
    ∙ sym (take_one (most - length done) x rest (omega (arith, below))))

one_longer : (most : ℕ) (done : List TextPair) (o : Option TextPair) → length done < most →
    length (done ++ option_to_list o) ≤ most
one_longer most done None below = omega (arith, below, length-append done [])
one_longer most done (Some x) below = omega (arith, below, length-append done (x ∷ []))

pub one_kept : (f : TextPair → Option TextPair) (most place : ℕ) (items : List Item) (item : Item)
    (done new all : List TextPair) → place < length items → item ≡ get_or items place item →
    length done < most →
    done ++ take (most - length done) (filter_map f (map pair_view (drop place items))) ≡ all →
    new ≡ done ++ option_to_list (f (pair_view item)) →
    new ++ take (most - length new) (filter_map f (map pair_view (drop (place + 1) items))) ≡ all
one_kept f most place items item done new all within is below so_far more =
    let rest = filter_map f (map pair_view (drop (place + 1) items)) in
    ap (λ xs. xs ++ take (most - length xs) rest) more
    ∙ (one_more most done rest (f (pair_view item)) below
    ∙ (ap (λ xs. done ++ take (most - length done) (filter_map f (map pair_view xs)))
    (sym (from_place items place item within is)) ∙ so_far))

pub still_within : (f : TextPair → Option TextPair) (most : ℕ) (item : Item)
    (done new : List TextPair) → length done < most →
    new ≡ done ++ option_to_list (f (pair_view item)) → length new ≤ most
still_within f most item done new below more =
    subst (λ xs. length xs ≤ most) (sym more) (one_longer most done (f (pair_view item)) below)

pub none_stays : (s : List ℕ) → length s ≡ 0 → None ≡ unless_empty (chars s)
none_stays [] is = ap unless_empty (sym chars-nil)
none_stays (b ∷ bs) is = absurd (omega (arith, is))

pub some_stays : (s : List ℕ) → IsUtf8 s → (length s ≡ 0 → ⊥) →
    Some (chars s) ≡ unless_empty (chars s)
some_stays s u some = by (chars s) refl
  where
    by : (cs : List ℕ) → chars s ≡ cs → Some cs ≡ unless_empty cs
    by [] is = absurd (some (ap length (sym (encodes-chars s u) ∙ ap encodes is)))
    by (c ∷ cs) is = refl
