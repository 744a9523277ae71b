-- What is known of the name of an element that stays.
use Rattle.std.proofs.Common.{◌≡◌, ℕ, Bool, true, false, not, ◌||◌, List, [], refl}
use Rattle.std.proofs.lemmas.Bool.{and_parts}
use Rattle.html_names_core.specs.Names.{stands_in}
use Rattle.html_page_names.specs.{ForeignNames.{keeps_case}, PageNames.{of}}
use Rattle.html_page_names.specs.declared.kind.Kind.TheVariants as kind
use Rattle.html_clean_policy.specs.Policies.{PolicyView, allows, dropped_names, has_dropped_kind, has_dropped_name, is_dropped, is_never_kept, unkept_names}

-- it is none of those that go, and none of those that give place to their children
pub record Allowed (p : PolicyView) (name : List ℕ) : Type 0 where
  pub listed : stands_in p.elements name ≡ true
  pub no_raw : of kind.Raw name ≡ false
  pub no_template : of kind.Template name ≡ false
  pub no_svg : of kind.Svg name ≡ false
  pub no_math : of kind.Math name ≡ false
  pub no_dropped : stands_in dropped_names name ≡ false
  pub no_unkept : stands_in unkept_names name ≡ false
  pub keeps_case : keeps_case [] name ≡ true

or_parts : (a b : Bool) → (a || b) ≡ false → (a ≡ false) × (b ≡ false)
or_parts true b e = cc
or_parts false b e = (refl, e)

not_parts : (b : Bool) → not b ≡ true → b ≡ false
not_parts true e = cc
not_parts false e = refl

not_not : (b : Bool) → not b ≡ false → b ≡ true
not_not true e = refl
not_not false e = cc

pub allowed_name : (p : PolicyView) (name : List ℕ) → allows p name ≡ true → Allowed p name
unfolding allows is_dropped is_never_kept has_dropped_kind has_dropped_name
allowed_name p name e =
    let both = and_parts _ (not (is_never_kept name)) e in
    let front = and_parts (stands_in p.elements name) (not (is_dropped name)) both.0 in
    let kept = or_parts (not (keeps_case [] name)) (stands_in unkept_names name)
    (not_parts (is_never_kept name) both.1) in
    let stays = or_parts (has_dropped_kind name) (has_dropped_name name)
    (not_parts (is_dropped name) front.1) in
    let three = or_parts (of kind.Raw name || of kind.Template name || of kind.Svg name)
    (of kind.Math name) stays.0 in
    let two = or_parts (of kind.Raw name || of kind.Template name) (of kind.Svg name) three.0 in
    let one = or_parts (of kind.Raw name) (of kind.Template name) two.0 in
    record {
      listed = front.0;
      no_raw = one.0;
      no_template = one.1;
      no_svg = two.1;
      no_math = three.1;
      no_dropped = stays.1;
      no_unkept = kept.1;
      keeps_case = not_not (keeps_case [] name) kept.0;
    }
