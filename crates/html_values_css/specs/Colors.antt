-- The css text of a colour (CSS Color 4, section 5.2, hexadecimal notation).
use Rattle.std.specs.{Fmt.{digit_glyph}, Prelude.{ℕ, ◌/◌, ◌%◌, ◌==◌, List, [], ◌∷◌, ◌++◌, codes, if◌then◌else◌, false}}
use Rattle.html_values_css.specs.declared.paint.Rgba.{Rgba}

-- a byte in two lowercase hexadecimal digits
abbrev pub hex_byte : ℕ → List ℕ
hex_byte n = digit_glyph false (n / 16) ∷ digit_glyph false (n % 16) ∷ []

-- the text of an alpha, which is omitted if it is opaque
abbrev pub alpha_text : ℕ → List ℕ
alpha_text a = if a == 255 then [] else hex_byte a

abbrev pub color_text : Rgba → List ℕ
color_text c = codes "#" ++ hex_byte c.r ++ hex_byte c.g ++ hex_byte c.b ++ alpha_text c.a
