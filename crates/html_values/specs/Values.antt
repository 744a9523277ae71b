-- Values of a document, as pure values.
use Rattle.std.specs.Prelude.{ℕ, ℤ, List, [], ◌∷◌, map, Bool, Option}
use Rattle.html_names_core.specs.Texts.{text_view}
use Rattle.html_values_css.specs.declared.{direction.Dir.{Dir}, paint.Rgba.{Rgba}}
use Rattle.html_values.specs.declared.{moment.Moment.{Moment}, value.Value.{Value, Value-F, fold-Value}}

mutual
  pub data ValueView : Type 0 where
    none_value : ValueView
    auto_value : ValueView
    bool_value : Bool → ValueView
    int_value : ℤ → ValueView
    str_value : List ℕ → ValueView
    color_value : Rgba → ValueView
    datetime_value : Moment → ValueView
    duration_value : ℕ → ValueView
    dir_value : Dir → ValueView
    image_value : (source : List ℕ) (wide : Option ℤ) → ValueView
    array_value : ValuesView → ValueView

  pub data ValuesView : Type 0 where
    no_values : ValuesView
    value : ValueView → ValuesView → ValuesView

abbrev pub values_of : List ValueView → ValuesView
values_of [] = no_values
values_of (v ∷ vs) = value v (values_of vs)

abbrev pub value_step : Value-F ValueView → ValueView
value_step Value-F.None = none_value
value_step Value-F.Auto = auto_value
value_step (Value-F.Bool b) = bool_value b
value_step (Value-F.Int n) = int_value n
value_step (Value-F.Str s) = str_value (text_view s)
value_step (Value-F.Color c) = color_value c
value_step (Value-F.Datetime m) = datetime_value m
value_step (Value-F.Duration s) = duration_value s
value_step (Value-F.Dir d) = dir_value d
value_step (Value-F.Image src width) = image_value (text_view src) width
value_step (Value-F.Array items) = array_value (values_of items.items)

abbrev pub value_view : Value → ValueView
value_view = fold-Value ValueView value_step

abbrev pub values_view : List Value → ValuesView
values_view vs = values_of (map value_view vs)
