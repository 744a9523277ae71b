-- Names of tables, one after the other.
use Rattle.std.proofs.Common.{◌≡◌, ℕ, ◌<◌, zero, suc, Bool, true, ◌&&◌, List, [], ◌∷◌, arith, get_or, length, map}
use Rattle.std.proofs.lemmas.Bool.{and_parts}
use Rattle.std.specs.{Borrow.{Bor}, List.{list_all}}
use Rattle.html_names_core.specs.Characters.{IsOf, all, is_attr_char, is_tag_char}
use Rattle.html_names_core.specs.Names.{is_ascii}
use Rattle.html_page_names.specs.Capitals.{is_name}
use Rattle.html_clean_policy.specs.Tables.{are_name_pairs, text_pairs}

-- what a test finds of all holds of the one at a place
pub passes_at : {A B : Type 0} (test : B → Bool) (view : A → B) (xs : List A) (place : ℕ) (d : A) →
    list_all test (map view xs) ≡ true → place < length xs → test (view (get_or xs place d)) ≡ true
passes_at test view [] place d all below = absurd (omega (arith, below))
passes_at test view (x ∷ xs) zero d all below =
    (and_parts (test (view x)) (list_all test (map view xs)) all).0
passes_at test view (x ∷ xs) (suc n) d all below =
    passes_at test view xs n d (and_parts (test (view x)) (list_all test (map view xs)) all).1
    (omega (arith, below))

-- names of tags and attributes in pairs
pub pair_named : (pairs : List (Bor (List ℕ) × Bor (List ℕ))) (place : ℕ)
    (d : Bor (List ℕ) × Bor (List ℕ)) → are_name_pairs (text_pairs pairs) ≡ true →
    place < length pairs →
    (is_name (get_or pairs place d).0.now ≡ true) × (is_name (get_or pairs place d).1.now ≡ true)
pair_named pairs place d all below =
    and_parts (is_name (get_or pairs place d).0.now) (is_name (get_or pairs place d).1.now)
    (passes_at (λ (p : List ℕ × List ℕ). is_name p.0 && is_name p.1)
    (λ (p : Bor (List ℕ) × Bor (List ℕ)). (p.0.now, p.1.now)) pairs place d all below)

pub name_of_tag : (name : List ℕ) → is_name name ≡ true → IsOf is_tag_char name
name_of_tag [] is = cc
name_of_tag (c ∷ cs) is =
    let both = and_parts (all is_tag_char (c ∷ cs) && all is_attr_char (c ∷ cs))
    (is_ascii (c ∷ cs)) is in
    let first = and_parts (all is_tag_char (c ∷ cs)) (all is_attr_char (c ∷ cs)) both.0 in
    and_parts (is_tag_char c) (all is_tag_char cs) first.0

pub name_of_attr : (name : List ℕ) → is_name name ≡ true → IsOf is_attr_char name
name_of_attr [] is = cc
name_of_attr (c ∷ cs) is =
    let both = and_parts (all is_tag_char (c ∷ cs) && all is_attr_char (c ∷ cs))
    (is_ascii (c ∷ cs)) is in
    let first = and_parts (all is_tag_char (c ∷ cs)) (all is_attr_char (c ∷ cs)) both.0 in
    and_parts (is_attr_char c) (all is_attr_char cs) first.1

pub name_ascii : (name : List ℕ) → is_name name ≡ true → is_ascii name ≡ true
name_ascii [] is = cc
name_ascii (c ∷ cs) is =
    (and_parts (all is_tag_char (c ∷ cs) && all is_attr_char (c ∷ cs)) (is_ascii (c ∷ cs)) is).1
