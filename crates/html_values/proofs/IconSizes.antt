-- Arrays that are no pair.
use Rattle.std.proofs.Common.{◌≡◌, ◌<◌, ◌≤◌, List, [], ◌∷◌, length, refl, arith}
use Rattle.html_values.specs.{Casts.{icon_size, refuses}, Values.{values_view}, declared.value.Value.{Value}}
use Rattle.html_values_css.specs.declared.cast_fault.CastFault.TheVariants.{WrongKind}

pub too_few : (vs : List Value) → length vs < 2 → icon_size (values_view vs) ≡ refuses WrongKind
too_few [] h = refl
too_few (v ∷ []) h = refl
too_few (v ∷ w ∷ vs) h = absurd (omega arith)

pub too_many : (vs : List Value) → 3 ≤ length vs → icon_size (values_view vs) ≡ refuses WrongKind
too_many [] h = absurd (omega arith)
too_many (v ∷ []) h = absurd (omega arith)
too_many (v ∷ w ∷ []) h = absurd (omega arith)
too_many (v ∷ w ∷ x ∷ vs) h = refl
