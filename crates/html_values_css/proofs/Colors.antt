-- A colour's text is ASCII.
use Rattle.std.proofs.Common.{◌≡◌, ℕ, ◌<◌, ◌/◌, ◌%◌, [], ◌∷◌, ◌++◌, Bool, true, false, if◌then◌else◌, ◌==◌, codes, chars, arith}
use Rattle.std.proofs.lemmas.{Bool.Decides.{nat_tests}, Str.{chars-IsAscii, IsAscii-append}, Str.Ascii.{IsAscii-nil, IsAscii-cons}}
use Rattle.std.specs.{Fmt.{digit_glyph}, Str.{IsAscii}}
use Rattle.html_values_css.specs.{Colors.{hex_byte, alpha_text, color_text}, declared.paint.Rgba.{Rgba}}

glyph_ascii : (d : ℕ) → d < 16 → digit_glyph false d < 128
glyph_ascii d h = grind (arith, nat_tests)

byte_ascii : (n : ℕ) → n < 256 → IsAscii (hex_byte n)
byte_ascii n h = IsAscii-cons _ (digit_glyph false (n % 16) ∷ [])
    (glyph_ascii (n / 16) (omega arith)) (IsAscii-cons _ [] (glyph_ascii (n % 16) (omega arith))
    IsAscii-nil)

alpha_ascii : (opaque : Bool) (n : ℕ) → n < 256 → IsAscii (if opaque then [] else hex_byte n)
alpha_ascii true n h = IsAscii-nil
alpha_ascii false n h = byte_ascii n h

pub color_chars : (c : Rgba) → c.r < 256 → c.g < 256 → c.b < 256 → c.a < 256 → chars (color_text c)
    ≡ color_text c
color_chars c r g b a =
    chars-IsAscii (color_text c)
    (IsAscii-append (codes "#" ++ hex_byte c.r ++ hex_byte c.g ++ hex_byte c.b) (alpha_text c.a)
    (IsAscii-append (codes "#" ++ hex_byte c.r ++ hex_byte c.g) (hex_byte c.b)
    (IsAscii-append (codes "#" ++ hex_byte c.r) (hex_byte c.g)
    (IsAscii-cons 35 (hex_byte c.r) (omega arith) (byte_ascii c.r r)) (byte_ascii c.g g))
    (byte_ascii c.b b)) (alpha_ascii (c.a == 255) c.a a))
