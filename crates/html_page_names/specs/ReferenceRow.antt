-- Rows of named character references, as a text lists them.
use Rattle.std.specs.{List.{before_first, after_first, slice_split}, Prelude.{ℕ, Bool, ◌==◌, List, map, find, bytes_eq, Option, option_map}}
use Rattle.std.specs.Str.Parse.{digits_value}
use Rattle.html_names_core.specs.Names.{listed_names}

-- a name, and the characters that it stands for
abbrev pub Row : Type 0
Row = List ℕ × List ℕ

abbrev pub is_equals : ℕ → Bool
is_equals c = c == 61

abbrev pub is_plus : ℕ → Bool
is_plus c = c == 43

-- the row that `name=number` lists, or `name=number+number`, in hexadecimal digits
abbrev pub row_of : List ℕ → Row
row_of text = (
  before_first is_equals text,
  map (digits_value 16) (slice_split is_plus (after_first is_equals text)),
)

-- the rows of a text, which one space separates
abbrev pub rows_of : List ℕ → List Row
rows_of text = map row_of (listed_names text)

-- the characters for that name in the rows
abbrev pub value_in : List Row → (name : List ℕ) → Option (List ℕ)
value_in rows name = option_map (λ r. r.1) (find (λ r. bytes_eq r.0 name) rows)
