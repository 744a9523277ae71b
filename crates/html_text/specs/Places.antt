-- Places in a text.
use Rattle.std.specs.{Char.{len_utf8}, Prelude.{ℕ, ◌+◌, ◌==◌, List, [], ◌∷◌, take, if◌then◌else◌}}
use Rattle.html_text.specs.declared.place.Place.{Place}

-- the beginning of a text: no byte is before it, and lines and columns are counted from 1
abbrev pub beginning : Place
beginning = record { offset = 0; line = 1; column = 1 }

-- the place behind one more character: only a line feed ends a line
abbrev pub next_place : Place → ℕ → Place
next_place p c = record {
  offset = p.offset + len_utf8 c;
  line = if c == 10 then p.line + 1 else p.line;
  column = if c == 10 then 1 else p.column + 1;
}

-- the place behind these characters
abbrev pub place_behind : Place → List ℕ → Place
place_behind p [] = p
place_behind p (c ∷ cs) = place_behind (next_place p c) cs

-- the place behind that many characters of a text
unfoldable pub place_at : (text : List ℕ) → (count : ℕ) → Place
place_at text count = place_behind beginning (take count text)
