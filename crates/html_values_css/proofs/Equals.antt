-- Properties are equal where their views are.
use Rattle.std.proofs.Common.{◌≡◌, List, [], ◌∷◌, map, Bool, ◌++◌, String, Global, refl, sym, ap, ◌∙◌, true≢false, string_bytes, chars, ◌&&◌, Option, None, Some, option_map}
use Rattle.std.specs.Hash as fed
use Rattle.std.proofs.lemmas.Str.{encodes-chars, IsUtf8-string_bytes}
use lib.Utf8.{encodes}
use Rattle.html_names_core.{proofs.Equals.{hashed}, specs.Hashes.{pair_writes, pairs_writes}}
use Rattle.std.proofs.lemmas.{Bool.Decides.{Decides-and}, Option.{none-some, same_Some}, Slice.Eq.{bytes_eq-Decides}}
use Rattle.std.specs.{Bool.{Decides}, Option.{option_eq}, String.{string_eq}}
use lib.Pointwise.{pointwise}
use Rattle.html_names_core.{proofs.Texts.{text_views}, specs.Texts.{text_view}}
use Rattle.html_values_css.specs.{Properties.{property_view, list_view}, declared.property.Property.{Property}}
use Rattle.html_values_css.specs.contracts.property.PropertyPartialEq.TheImpl as block
use Rattle.html_values_css.specs.contracts.property.PropertyHash.TheImpl as hashing

pub pairs_decide : {A B : Type 0} {a b : A} {c d : B} (first second : Bool) →
    Decides first (a ≡ b) → Decides second (c ≡ d) →
    Decides (first && second) (◌≡◌ {A = A × B} (a, c) (b, d))
pairs_decide {A} {B} {a} {b} {c} {d} first second firsts seconds =
    let both = Decides-and first second firsts seconds in (
      λ h. let e = both.0 h in ap (λ x. (x, c)) e.0 ∙ ap (λ y. (b, y)) e.1,
      λ e. both.1 (ap (λ p. p.0) e, ap (λ p. p.1) e),
    )

-- where a test decides what a view is, so it does for optional values and for lists
module _ {A B : Type 0} (equal : A → A → Bool) (view : A → B)
    (decides : (x y : A) → Decides (equal x y) (view x ≡ view y)) where
  pub options_decide : (a b : Option A) →
      Decides (option_eq equal a b) (option_map view a ≡ option_map view b)
  options_decide None None = (λ h. refl, λ e. refl)
  options_decide None (Some y) =
      (λ h. absurd (true≢false (sym h)), λ e. absurd (none-some (view y) e))
  options_decide (Some x) None =
      (λ h. absurd (true≢false (sym h)), λ e. absurd (none-some (view x) (sym e)))
  options_decide (Some x) (Some y) =
      let one = decides x y in
      (λ h. ap Some (one.0 h), λ e. one.1 (same_Some (view x) (view y) e))

  pub lists_decide : (xs ys : List A) → Decides (pointwise equal xs ys) (map view xs ≡ map view ys)
  lists_decide [] [] = (λ h. refl, λ e. refl)
  lists_decide [] (y ∷ ys) = (λ h. absurd (true≢false (sym h)), λ e. cc)
  lists_decide (x ∷ xs) [] = (λ h. absurd (true≢false (sym h)), λ e. cc)
  lists_decide (x ∷ xs) (y ∷ ys) =
      let rest = lists_decide xs ys in
      let both = Decides-and (equal x y) (pointwise equal xs ys) (decides x y) rest in
      (λ h. let e = both.0 h in cc, λ e. both.1 (cc, cc))

pub text_decides : (a b : String Global) → Decides (string_eq a b) (text_view a ≡ text_view b)
text_decides a b =
    let bytes = bytes_eq-Decides (string_bytes a) (string_bytes b) in
    (λ h. ap chars (bytes.0 h), λ e. bytes.1 (text_views a b e))

pub one_decides : (a b : Property) → Decides (block.ghosts.eq a b)
    (property_view a ≡ property_view b)
one_decides a b = pairs_decide (string_eq a.name b.name) (string_eq a.value b.value)
    (text_decides a.name b.name) (text_decides a.value b.value)

pub list_decides : (xs ys : List Property) → Decides (pointwise block.ghosts.eq xs ys)
    (list_view xs ≡ list_view ys)
list_decides = lists_decide block.ghosts.eq property_view one_decides

-- and hashed by the bytes of their texts
item_fed : Property → fed.HashWrites
item_fed p = fed.str (string_bytes p.name) ++ fed.str (string_bytes p.value)

one_fed : (p : Property) → item_fed p ≡ pair_writes (property_view p)
unfolding item_fed
one_fed p =
    ap (λ s. fed.str s ++ fed.str (string_bytes p.value))
    (sym (encodes-chars (string_bytes p.name) (IsUtf8-string_bytes p.name)))
    ∙ ap (λ s. fed.str (encodes (text_view p.name)) ++ fed.str s)
    (sym (encodes-chars (string_bytes p.value) (IsUtf8-string_bytes p.value)))

pub list_hashed : (xs : List Property) → fed.slice hashing.ghosts.hash_input xs
    ≡ pairs_writes (list_view xs)
unfolding item_fed
list_hashed xs = hashed property_view item_fed one_fed xs
