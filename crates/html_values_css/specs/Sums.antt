-- The css text of a sum (CSS Values 4, section 10.1, `calc()`).
use Rattle.std.specs.{List.{filter, flat_map}, Prelude.{◌≡◌, ℕ, ℤ, neg_ℤ, List, [], ◌∷◌, ◌++◌, codes, not, if◌then◌else◌}}
use Rattle.html_values_css.specs.{Quantities.{is_zero, is_negative, abs_text, em_text, ratio_text}, declared.sink.Warning.{Warning}}
pub use Rattle.html_values_css.specs.declared.calc.{Parts.{Parts}, Parts.TheVariants.{Zero, One, More}}

-- a part: its number, its text, its warnings, and the last two of the negated part
pub record Part : Type 0 where
  pub number : ℤ
  pub text : List ℕ
  pub warnings : List Warning
  pub opposite_text : List ℕ
  pub opposite_warnings : List Warning

-- the text of a part behind others
abbrev pub following_part : Part → List ℕ
following_part p = if is_negative p.number then codes " - " ++ p.opposite_text else codes " + " ++ p.text

-- the text of nonzero parts: none is `0`, one is alone, and more are in `calc`
abbrev pub whole_sum : List Part → List ℕ
whole_sum [] = codes "0"
whole_sum (p ∷ []) = p.text
whole_sum (p ∷ q ∷ ps) = codes "calc(" ++ p.text ++ flat_map following_part (q ∷ ps) ++ codes ")"

-- the text of a sum, which drops parts of exactly zero
abbrev pub sum_text : List Part → List ℕ
sum_text parts = whole_sum (filter (λ p. not (is_zero p.number)) parts)

-- a quantity as a part
abbrev pub quantity_part : (ℤ → List ℕ) → ℤ → Part
quantity_part text z = record {
  number = z;
  text = text z;
  warnings = [];
  opposite_text = text (neg_ℤ z);
  opposite_warnings = [];
}

abbrev pub length_text : (em abs : ℤ) → List ℕ
length_text em abs = sum_text (quantity_part em_text em ∷ quantity_part abs_text abs ∷ [])

abbrev pub rel_text : (ratio em abs : ℤ) → List ℕ
rel_text ratio em abs = sum_text (quantity_part ratio_text ratio ∷ quantity_part em_text em ∷
    quantity_part abs_text abs ∷ [])

-- the number of parts that a sum has after one more, as its text is written step by step
abbrev pub next : Parts → Parts
next Zero = One
next One = More
next More = More

abbrev pub next_parts : Parts → Part → Parts
next_parts parts p = if is_zero p.number then parts else next parts

-- the text of a sum after one more part; the second part puts the opening before the first
abbrev pub with_part : Parts → List ℕ → Part → List ℕ
with_part Zero own p = own ++ p.text
with_part One own p = codes "calc(" ++ own ++ following_part p
with_part More own p = own ++ following_part p

abbrev pub next_text : Parts → List ℕ → Part → List ℕ
next_text parts own p = if is_zero p.number then own else with_part parts own p

-- the warnings of that part
abbrev pub part_warnings : Parts → Part → List Warning
part_warnings Zero p = p.warnings
part_warnings One p = if is_negative p.number then p.opposite_warnings else p.warnings
part_warnings More p = if is_negative p.number then p.opposite_warnings else p.warnings

abbrev pub next_warnings : Parts → Part → List Warning
next_warnings parts p = if is_zero p.number then [] else part_warnings parts p

-- the text that closes the sum
abbrev pub sum_end : Parts → List ℕ
sum_end Zero = codes "0"
sum_end One = []
sum_end More = codes ")"

-- the text that a sum with these parts writes, step by step, after what it has written so far
abbrev pub written_sum : Parts → List ℕ → List Part → List ℕ
written_sum parts own [] = own ++ sum_end parts
written_sum parts own (p ∷ ps) = written_sum (next_parts parts p) (next_text parts own p) ps

-- a sum writes its text part by part
abbrev pub SumWritten : Type 0
SumWritten = (parts : List Part) → written_sum Zero [] parts ≡ sum_text parts
