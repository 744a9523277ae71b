-- The forms of a list, by its kind.
use Rattle.std.proofs.Common.{◌≡◌, List, [], ◌∷◌, drop, refl}
use Rattle.serde_json.specs.{View.{items_view}, declared.value.Value.{Value}}
use Rattle.typst_html_json.specs.{FormKinds.{list_kind}, LeftForms.{from_part}, Marks.{Mark}}
use Rattle.typst_html_json.specs.Spelled as tree
use Rattle.typst_html_json.specs.SpelledItems as flow
use Rattle.typst_html_json.specs.declared.input_forms.{Forms.{Forms}, Forms.TheVariants.{Program}}

pub part_form-kind : (forms : Forms) (vs : List Value) (m : Mark)
    → flow.part_form forms (items_view vs) m
    ≡ from_part m.lists (λ kind. flow.part_of_kind forms kind (items_view (drop 1 vs)) m)
    (list_kind forms (items_view vs))
part_form-kind forms [] m = refl
part_form-kind forms (v ∷ vs) m = refl

pub form-kind : (vs : List Value) (m : Mark) → tree.form (items_view vs) m
    ≡ from_part m.lists (λ kind. tree.node_of_kind kind (items_view (drop 1 vs)) m)
    (list_kind Program (items_view vs))
form-kind [] m = refl
form-kind (v ∷ vs) m = refl
