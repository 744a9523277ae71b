-- The css text of a paint.
use Rattle.std.specs.{Prelude.{◌≡◌, ℕ, List, [], ◌∷◌, Result}, declared.alloc.AllocError.{AllocError}}
use Rattle.html_values_css.specs.{Colors.{color_text}, Sink.{AddsAtMost, SinkAnswers}, declared.sink.Warning.{Warning}}
use Rattle.html_values_css.specs.declared.sink.Warning.TheVariants as warning
use Rattle.html_values_css.specs.declared.paint.{Paint.{Paint}, Paint.TheVariants.{Solid, Gradient, Tiling}}

abbrev pub paint_text : Paint → List ℕ
paint_text (Solid c) = color_text c
paint_text Gradient = []
paint_text Tiling = []

-- the warnings of a paint: one that fails has its own
abbrev pub paint_warnings : Paint → List Warning
paint_warnings (Solid c) = []
paint_warnings Gradient = warning.Gradient ∷ []
paint_warnings Tiling = warning.Tiling ∷ []

-- the list of warnings gains at most the paint's own
abbrev pub PaintWarns : (old new : List Warning) → Paint → Type 0
PaintWarns old new (Solid c) = new ≡ old
PaintWarns old new Gradient = AddsAtMost old new warning.Gradient
PaintWarns old new Tiling = AddsAtMost old new warning.Tiling

-- the call of a paint that fails ends as the sink's does
abbrev pub PaintGives : {S : Type 0} → SinkAnswers S → (old new : S) → Result (Unit {0}) AllocError
    → Paint → Type 0
PaintGives gives old new r (Solid c) = Unit {0}
PaintGives gives old new r Gradient = gives old warning.Gradient r new
PaintGives gives old new r Tiling = gives old warning.Tiling r new
