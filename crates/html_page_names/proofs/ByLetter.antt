-- A name is looked for among the references that begin with its first letter.
use Rattle.std.proofs.Common.{◌≡◌, ℕ, zero, suc, ◌+◌, ◌<◌, ◌≤◌, Bool, true, false, ◌&&◌, List, [], ◌∷◌, ◌++◌, refl, sym, ap, ◌∙◌, length, get_or, arith, bytes_eq, chars, Option, None, option_map, ◌⊎◌, inl, inr}
use Rattle.std.proofs.lemmas.{Bool.{ne_eqb}, Slice.Eq.{bytes_eq-Decides}}
use Rattle.std.specs.{Borrow.{Bor}, List.{list_all, flat_map}, Option.{option_or}, Str.{IsUtf8}}
use mathlib.Core.Logic.{⊎_elim}
use Rattle.html_names_core.{proofs.Lists.{bytes_eq-ascii}, specs.Names.{is_ascii}}
use Rattle.html_page_names.specs.{NamedReferences.{value_in_groups}, ReferenceRow.{Row, value_in}}
use Rattle.html_page_names.specs.ReferenceTables.{rows_view, groups_view, are_as_long, all_as_long, begins_with, are_grouped}
use Rattle.html_page_names.specs.declared.reference_rows.Reference.{Reference}

abbrev Value : Type 0
Value = Option (List ℕ)

abbrev is_of : (letter : ℕ) → Row → Bool
is_of letter r = begins_with letter r.0 && is_ascii r.0

or_none : (o : Value) → option_or o None ≡ o
or_none o = grind arith

abbrev is_named : (name : List ℕ) → Row → Bool
is_named name r = bytes_eq r.0 name

abbrev value : Option Row → Value
value = option_map (λ r. r.1)

value_in-append : (xs ys : List Row) (name : List ℕ) →
    value_in (xs ++ ys) name ≡ option_or (value_in xs name) (value_in ys name)
value_in-append [] ys name = refl
value_in-append (r ∷ xs) ys name = grind (arith, value_in-append xs ys name)

-- no name of a group begins with another letter
other_group : (letter : ℕ) (rows : List Row) (name : List ℕ) → list_all (is_of letter) rows ≡ true →
    begins_with letter name ≡ false → value_in rows name ≡ None
other_group letter [] name are other = refl
other_group letter (r ∷ rows) name are other =
    grind (arith, (bytes_eq-Decides r.0 name).0, other_group letter rows name)

value_in_groups-cons : (rows : List Row) (groups : List (List Row)) (name : List ℕ) →
    value_in_groups (rows ∷ groups) name ≡ option_or (value_in rows name) (value_in_groups groups name)
unfolding value_in_groups
value_in_groups-cons rows groups name = value_in-append rows (flat_map (λ rows. rows) groups) name

nothing : (name : List ℕ) → value_in_groups [] name ≡ None
unfolding value_in_groups
nothing name = refl

no_group : (letter : ℕ) (groups : List (List Row)) (name : List ℕ) →
    are_grouped letter groups ≡ true →
    ((l : ℕ) → letter ≤ l → begins_with l name ≡ false) → value_in_groups groups name ≡ None
no_group letter [] name are other = nothing name
no_group letter (rows ∷ groups) name are other =
    let here = other_group letter rows name (grind arith) (other letter (omega arith)) in
    let there = no_group (suc letter) groups name (grind arith) (λ l h. other l (omega arith)) in
    grind (arith, value_in_groups-cons rows groups name)

-- of names that begin with a letter all are in its group
by_letter : (letter n c : ℕ) (groups : List (List Row)) (cs : List ℕ) →
    are_grouped letter groups ≡ true → c ≡ letter + n →
    value_in_groups groups (c ∷ cs) ≡ value_in (get_or groups n []) (c ∷ cs)
by_letter letter n c [] cs are is = nothing (c ∷ cs)
by_letter letter zero c (rows ∷ groups) cs are is =
    let there = no_group (suc letter) groups (c ∷ cs) (grind arith)
    (λ l h. ne_eqb c l (λ e. omega arith)) in
    value_in_groups-cons rows groups (c ∷ cs)
    ∙ (ap (option_or (value_in rows (c ∷ cs))) there ∙ or_none (value_in rows (c ∷ cs)))
by_letter letter (suc n) c (rows ∷ groups) cs are is =
    let other = ne_eqb c letter (λ e. omega arith) in
    let here = other_group letter rows (c ∷ cs) (grind arith) other in
    value_in_groups-cons rows groups (c ∷ cs)
    ∙ (ap (λ o. option_or o (value_in_groups groups (c ∷ cs))) here
    ∙ by_letter (suc letter) n c groups cs (grind arith) (omega arith))

-- names are ASCII, so that texts may be compared by their bytes
value_in-chars : (letter : ℕ) (rows : List Row) (t : List ℕ) → list_all (is_of letter) rows ≡ true →
    IsUtf8 t → value_in rows (chars t) ≡ value_in rows t
value_in-chars letter [] t are u = refl
value_in-chars letter (r ∷ rows) t are u =
    grind (arith, bytes_eq-ascii r.0 t, value_in-chars letter rows t)

in_bytes : (letter : ℕ) (groups : List (List Row)) (t : List ℕ) → are_grouped letter groups ≡ true →
    IsUtf8 t → value_in_groups groups (chars t) ≡ value_in_groups groups t
in_bytes letter [] t are u = nothing (chars t) ∙ sym (nothing t)
in_bytes letter (rows ∷ groups) t are u =
    value_in_groups-cons rows groups (chars t)
    ∙ ((λ i. option_or (value_in-chars letter rows t (grind arith) u i)
    (in_bytes (suc letter) groups t (grind arith) u i)) ∙ sym (value_in_groups-cons rows groups t))

pub view_at : (names : List (Bor (List ℕ))) (references : List (Bor (List Reference))) (n : ℕ)
    (d : Bor (List ℕ)) (e : Bor (List Reference)) → n < length names → n < length references →
    get_or (groups_view names references) n []
    ≡ rows_view (get_or names n d).now (get_or references n e).now
view_at [] references n d e l m = absurd (omega arith)
view_at (t ∷ ts) [] n d e l m = absurd (omega arith)
view_at (t ∷ ts) (r ∷ rs) zero d e l m = refl
view_at (t ∷ ts) (r ∷ rs) (suc n) d e l m = view_at ts rs n d e (omega arith) (omega arith)

-- beyond the end of either list is no group
pub view_past : (names : List (Bor (List ℕ))) (references : List (Bor (List Reference))) (n : ℕ) →
    (length names ≤ n) ⊎ (length references ≤ n) → get_or (groups_view names references) n [] ≡ []
view_past [] references n past = refl
view_past (t ∷ ts) [] n past = refl
view_past (t ∷ ts) (r ∷ rs) zero past = ⊎_elim (λ h. absurd (omega arith)) (λ h. absurd (omega arith)) past
view_past (t ∷ ts) (r ∷ rs) (suc n) past =
    view_past ts rs n (⊎_elim (λ h. inl (omega arith)) (λ h. inr (omega arith)) past)

pub long_at : (names : List (Bor (List ℕ))) (references : List (Bor (List Reference))) (n : ℕ)
    (d : Bor (List ℕ)) (e : Bor (List Reference)) → all_as_long names references ≡ true →
    n < length names → n < length references →
    are_as_long (get_or names n d).now (get_or references n e).now ≡ true
long_at [] references n d e are l m = absurd (omega arith)
long_at (t ∷ ts) [] n d e are l m = absurd (omega arith)
long_at (t ∷ ts) (r ∷ rs) zero d e are l m =
    grind arith
long_at (t ∷ ts) (r ∷ rs) (suc n) d e are l m =
    long_at ts rs n d e (grind arith) (omega arith) (omega arith)

pub no_letter : (groups : List (List Row)) (t : List ℕ) → are_grouped 65 groups ≡ true → IsUtf8 t →
    length t ≤ 0 → value_in_groups groups (chars t) ≡ None
no_letter groups [] are u short =
    in_bytes 65 groups [] are u ∙ no_group 65 groups [] are (λ l h. refl)
no_letter groups (c ∷ cs) are u short = absurd (omega arith)

pub below_letters : (groups : List (List Row)) (t : List ℕ) (first : ℕ) →
    are_grouped 65 groups ≡ true → IsUtf8 t → first ≡ get_or t 0 0 → first < 65 →
    value_in_groups groups (chars t) ≡ None
below_letters groups [] first are u is below = no_letter groups [] are u (omega arith)
below_letters groups (c ∷ cs) first are u is below =
    in_bytes 65 groups (c ∷ cs) are u
    ∙ no_group 65 groups (c ∷ cs) are (λ l h. ne_eqb c l (λ e. omega (arith, is, below, h, e)))

pub in_group : (groups : List (List Row)) (t : List ℕ) (first n : ℕ) → are_grouped 65 groups ≡ true →
    IsUtf8 t → 0 < length t → first ≡ get_or t 0 0 → first ≡ 65 + n →
    value_in_groups groups (chars t) ≡ value_in (get_or groups n []) t
in_group groups [] first n are u long is at = absurd (omega arith)
in_group groups (c ∷ cs) first n are u long is at =
    in_bytes 65 groups (c ∷ cs) are u ∙ by_letter 65 n c groups cs are (omega (arith, is, at))
