-- The forms of a value, by the length of its list.
use Rattle.std.proofs.Common.{◌≡◌, ◌≢◌, ◌≤◌, List, [], ◌∷◌, length, get_or, drop, Some, None, Err, refl, arith}
use Rattle.serde_json.specs.{View.{view, items_view}, declared.value.Value.{Value}}
use Rattle.typst_html_json.specs.Fields.{text_at, pairs_at, pair_form, text_form, no_fields, plain_start_form, start_form, end_form, element_from}
use Rattle.typst_html_json.specs.{Marks.{Mark}, Spelled.{element_form, element_made, list_at}}
use Rattle.typst_html_json.specs.declared.input_forms.Forms.TheVariants.{Document}

pub text_form-other : (vs : List Value) → length vs ≢ 2
    → text_form (items_view (drop 1 vs)) ≡ None
text_form-other (v ∷ w ∷ []) h = absurd (h refl)
text_form-other vs h = refl

pub no_fields-few : (vs : List Value) → length vs ≤ 1
    → no_fields (items_view (drop 1 vs)) ≡ Some tt
no_fields-few [] h = refl
no_fields-few (v ∷ []) h = refl
no_fields-few (v ∷ w ∷ vs) h = absurd (omega (arith, h))

pub no_fields-other : (vs : List Value) → length vs ≢ 0 → length vs ≢ 1
    → no_fields (items_view (drop 1 vs)) ≡ None
no_fields-other [] g h = absurd (g refl)
no_fields-other (v ∷ []) g h = absurd (h refl)
no_fields-other (v ∷ w ∷ vs) g h = refl

pub end_form-other : (vs : List Value) → length vs ≢ 2
    → end_form (items_view (drop 1 vs)) ≡ None
end_form-other (v ∷ w ∷ []) h = absurd (h refl)
end_form-other vs h = refl

pub start_form-other : (vs : List Value) → length vs ≢ 2 → length vs ≢ 3
    → plain_start_form (items_view (drop 1 vs)) ≡ None
start_form-other (v ∷ w ∷ []) g h = absurd (g refl)
start_form-other (v ∷ w ∷ x ∷ []) g h = absurd (h refl)
start_form-other vs g h = refl

-- a label stands behind three parts
pub start_form-unlabelled : (vs : List Value) → length vs ≢ 4
    → start_form Document (items_view (drop 1 vs)) ≡ plain_start_form (items_view (drop 1 vs))
start_form-unlabelled (v ∷ w ∷ x ∷ y ∷ []) h = absurd (h refl)
start_form-unlabelled vs h = refl

pub pair_form-other : (vs : List Value) → length vs ≢ 2 → pair_form (items_view vs) ≡ None
pair_form-other (v ∷ w ∷ []) h = absurd (h refl)
pair_form-other vs h = refl

pub element_form-other : (vs : List Value) (m : Mark) → length vs ≢ 4
    → element_form (items_view (drop 1 vs)) m ≡ Err m.lists
element_form-other (u ∷ v ∷ w ∷ x ∷ []) m h = absurd (h refl)
element_form-other vs m h = refl

-- a kind, a name, attributes and what stands in the element
pub element_form-four : (vs : List Value) (a b d : Value) (m : Mark) → length vs ≡ 4
    → a ≡ get_or vs 1 a → b ≡ get_or vs 2 b → d ≡ get_or vs 3 d
    → element_form (items_view (drop 1 vs)) m
    ≡ element_from (element_made m.lists) m (text_at (view a)) (pairs_at (view b))
    (list_at (view d) m)
element_form-four (u ∷ v ∷ w ∷ x ∷ []) a b d m h p q r = rw (p, q, r) refl
element_form-four vs a b d m h p q r = absurd (omega (arith, h))

pub ruleset forms = (
  text_form-other,
  no_fields-few,
  no_fields-other,
  start_form-other,
  start_form-unlabelled,
  end_form-other,
  pair_form-other,
  element_form-other,
)
