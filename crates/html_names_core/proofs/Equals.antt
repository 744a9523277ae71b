-- Lists with one view are equally long; a comparison of views is the test, and what is read of a
-- view is hashed.
use Rattle.std.proofs.{Common.{◌≡◌, List, [], ◌∷◌, ◌++◌, length, ap, refl, map, sym, ◌∙◌}, lemmas.List.{length-map}}
use Rattle.std.specs.Prelude.{Bool, flat_map}
use Rattle.std.specs.Hash as fed
use Rattle.std.specs.Bool.{Decides, one_answer}
use Rattle.html_names_core.specs.{Equal.{same, same_decides}, Hashes.{pair_writes, pairs_writes}, Texts.{TextPair}}

pub same_count : {A B : Type 0} (v : A → B) (xs ys : List A) → map v xs ≡ map v ys →
    length xs ≡ length ys
same_count v xs ys e =
    let p = length-map xs v in let q = length-map ys v in let r = ap length e in cc

pub same_result : {A B : Type 0} (v : B → A) (d : Discrete A) (x y : B) (r : Bool) →
    Decides r (v x ≡ v y) → r ≡ same v d x y
same_result v d x y r h = one_answer r (same v d x y) h (same_decides v d x y)

-- an answer that is the test of views decides whether the views are one
pub same_law : {A B : Type 0} (v : B → A) (d : Discrete A) (x y : B) (r : Bool) → r ≡ same v d x y →
    Decides r (v x ≡ v y)
same_law v d x y r e =
    (λ h. (same_decides v d x y).0 (sym e ∙ h), λ p. e ∙ (same_decides v d x y).1 p)

module _ {A : Type 0} (v : A → TextPair) (item_fed : A → fed.HashWrites)
    (one_fed : (a : A) → item_fed a ≡ pair_writes (v a)) where
  all_fed : (xs : List A) → flat_map item_fed xs ≡ flat_map pair_writes (map v xs)
  all_fed [] = refl
  all_fed (x ∷ xs) = ap (λ w. w ++ flat_map item_fed xs) (one_fed x)
      ∙ ap (λ w. pair_writes (v x) ++ w) (all_fed xs)

  pub hashed : (xs : List A) → fed.slice item_fed xs ≡ pairs_writes (map v xs)
  hashed xs = ap (λ n. fed.usize n ++ flat_map item_fed xs) (sym (length-map xs v))
      ∙ ap (λ w. fed.usize (length (map v xs)) ++ w) (all_fed xs)
