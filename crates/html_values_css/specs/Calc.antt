-- The text that a sum has written, and the text before it.
use Rattle.std.specs.Prelude.{◌≡◌, ◌≤◌, ℕ, ℤ, List, ◌++◌, codes, take, drop, length, chars, string_bytes}
use Rattle.html_values_css.specs.{Sums.{Part, Parts, Zero, One, More, following_part}, Writer.{WriterState}}
use Rattle.html_values_css.specs.declared.{sink.Warning.{Warning}, writer.CssWriter.{CssWriter}}

-- the text of the writer before a sum, and what the sum has written, as a writer of its own
abbrev pub text_before : {S : Type 0} → ℕ → CssWriter S → List ℕ
text_before start w = chars (take start (string_bytes w.text))

abbrev pub written_from : {S : Type 0} → ℕ → CssWriter S → WriterState S
written_from start w = record {
  text = chars (drop start (string_bytes w.text));
  failed =
      w.failed;
  sink = w.sink;
}

-- nothing before the start of the sum changes
pub record KeepsFront {S : Type 0} (start : ℕ) (old new : CssWriter S) : Type 0 where
  pub within : start ≤ length (string_bytes new.text)
  pub front : take start (string_bytes new.text) ≡ take start (string_bytes old.text)

-- the part of a value, whose type defines its number, its text and its negation
abbrev pub part_of : {T : Type 0} → (T → ℤ) → (T → List ℕ) → (T → List Warning) → (T → T) → T → Part
part_of number text warnings opposite x = record {
  number = number x;
  text = text x;
  warnings = warnings x;
  opposite_text = text (opposite x);
  opposite_warnings = warnings (opposite x);
}

-- the text that one more part appends
abbrev pub next_part_text : Parts → Part → List ℕ
next_part_text Zero p = p.text
next_part_text One p = following_part p
next_part_text More p = following_part p

-- the text of a sum with the opening, which comes with the second part
abbrev pub with_opening : Parts → List ℕ → List ℕ
with_opening Zero text = text
with_opening One text = codes "calc(" ++ text
with_opening More text = text
