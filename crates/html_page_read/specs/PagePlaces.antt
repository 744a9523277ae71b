-- Places in a page. Lines and columns are those of the text with LF for its CR LF and CR, and
-- without a byte order mark; offsets count the bytes of the text itself.
use Rattle.std.specs.{Char.{len_utf8}, Prelude.{ℕ, ◌+◌, Bool, false, not, ◌&&◌, ◌||◌, ◌==◌, nat_le, List, [], ◌∷◌, if◌then◌else◌}}
use Rattle.html_text.specs.{Places.{beginning}, declared.place.Place.{Place}}

-- the place behind one more character; a line feed behind a carriage return ends no other line, and
-- a byte order mark at the beginning is no character of a line
abbrev pub next_place : (after_return : Bool) → Place → ℕ → Place
next_place after_return p c = record {
  offset = p.offset + len_utf8 c;
  line = if c == 13 || (c == 10 && not after_return) then p.line + 1 else p.line;
  column = if c == 13 || c == 10 then 1
      else (if c == 0xfeff && p.offset == 0 then p.column else p.column + 1);
}

-- the first place, from a given one on, with at least that offset, or else the end of the text
abbrev pub place_from : (after_return : Bool) → Place → (text : List ℕ) → (offset : ℕ) → Place
place_from after_return p [] offset = p
place_from after_return p (c ∷ cs) offset = if nat_le offset p.offset then p
    else place_from (c == 13) (next_place after_return p c) cs offset

-- the place of the character of a text at that offset in bytes
unfoldable pub place_at : (text : List ℕ) → (offset : ℕ) → Place
place_at text offset = place_from false beginning text offset
