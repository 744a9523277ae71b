-- What stands in a table of texts, and that an ascending one holds no text twice.
use Rattle.std.proofs.Common.{◌≡◌, ℕ, zero, suc, ◌<◌, Bool, true, false, List, [], ◌∷◌, ◌++◌, refl, sym, ap, ◌∙◌, length, get_or, arith, bytes_eq}
use Rattle.std.proofs.lemmas.{Bool.{and_parts}, Cmp.{nat_list_cmp_total}, Map.Text.{is_eq-slice_cmp}, Slice.Eq.{bytes_eq-Decides}}
use Rattle.std.specs.{Cmp.Lexicographic.{slice_cmp}, List.{list_all}, Ordering.{nat_cmp, is_lt, is_eq}, declared.cmp.Ordering.{Ordering}}
use Rattle.std.specs.declared.cmp.Ordering.TheVariants.{Less, Equal, Greater}
use Rattle.html_names_core.specs.Names.{stands_in, rises, is_below_first, is_ascii, are_ascii}

pub stands : (names : List (List ℕ)) (n : ℕ) → n < length names →
    stands_in names (get_or names n []) ≡ true
unfolding stands_in
stands [] n h = absurd (omega arith)
stands (m ∷ ms) zero h = rw ((bytes_eq-Decides m m).1 refl) refl
stands (m ∷ ms) (suc n) h = grind (arith, stands ms n)

-- a text of a table differs from one that does not stand there
pub differs : (table : List (List ℕ)) (name text : List ℕ) → stands_in table name ≡ true →
    stands_in table text ≡ false → bytes_eq name text ≡ false
differs table name text s h = grind (arith, (bytes_eq-Decides name text).0)

pub stands_in-append : (names more : List (List ℕ)) (name : List ℕ) →
    stands_in names name ≡ true → stands_in (names ++ more) name ≡ true
unfolding stands_in
stands_in-append [] more name h = cc
stands_in-append (n ∷ ns) more name h = grind (arith, stands_in-append ns more name)

-- a test that all pass
pub all_at : {A : Type 0} (p : A → Bool) (xs : List A) (n : ℕ) (d : A) → n < length xs →
    list_all p xs ≡ true → p (get_or xs n d) ≡ true
all_at p [] n d h a = absurd (omega arith)
all_at p (x ∷ xs) zero d h a = (and_parts (p x) (list_all p xs) a).0
all_at p (x ∷ xs) (suc n) d h a =
    all_at p xs n d (omega arith) (and_parts (p x) (list_all p xs) a).1

pub ascii_at : (names : List (List ℕ)) (n : ℕ) → n < length names → are_ascii names ≡ true →
    is_ascii (get_or names n []) ≡ true
ascii_at names n = all_at is_ascii names n []

abbrev cmp : List ℕ → List ℕ → Ordering
cmp = slice_cmp nat_cmp

less : (o : Ordering) → is_lt o ≡ true → o ≡ Less
less Less h = refl
less Equal h = cc
less Greater h = cc

-- an ascending table holds no text twice
ascends : (names : List (List ℕ)) → rises names ≡ true → (i j : ℕ) → i < j → j < length names →
    cmp (get_or names i []) (get_or names j []) ≡ Less
ascends [] a i j h l = absurd (omega arith)
ascends (y ∷ ys) a i zero h l = absurd (omega arith)
ascends (y ∷ []) a zero (suc j) h l = absurd (omega arith)
ascends (y ∷ z ∷ zs) a zero (suc zero) h l = less (cmp y z) (and_parts _ (rises (z ∷ zs)) a).0
ascends (y ∷ z ∷ zs) a zero (suc (suc j)) h l =
    let both = and_parts (is_lt (cmp y z)) (rises (z ∷ zs)) a in
    nat_list_cmp_total.trans y z _ (less (cmp y z) both.0)
    (ascends (z ∷ zs) both.1 zero (suc j) (omega arith) (omega arith))
ascends (y ∷ ys) a (suc i) (suc j) h l =
    ascends ys (and_parts (is_below_first y ys) _ a).1 i j (omega arith) (omega arith)

apart : (a b : List ℕ) → cmp a b ≡ Less → bytes_eq a b ≡ false
apart a b e = sym (is_eq-slice_cmp a b) ∙ ap is_eq e

pub places_differ : (names : List (List ℕ)) → rises names ≡ true → (i j : ℕ) → i < j →
    j < length names → bytes_eq (get_or names i []) (get_or names j []) ≡ false
places_differ names a i j h l =
    apart (get_or names i []) (get_or names j []) (ascends names a i j h l)
