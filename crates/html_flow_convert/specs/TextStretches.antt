-- Stretches of a text where white space collapses, as they grow.
use Rattle.std.specs.Prelude.{◌≡◌, ℕ, Bool, true, false, ◌==◌, ◌&&◌, ◌||◌, nat_lt, List, [], ◌∷◌, ◌++◌, Option, None, Some, chars}
use Rattle.std.specs.Str.{IsUtf8}
use Rattle.html_flow_convert.specs.Pieces.{PieceView, first_char, in_stretch, is_normal, is_normal_there}

-- pieces with characters before them, as part of the stretch that stands there or of a new one
abbrev pub with_stretch : (text : List ℕ) → List PieceView → List PieceView
with_stretch [] ps = ps
with_stretch (c ∷ cs) ps = in_stretch c (with_stretch cs ps)

-- whether a byte is a character of ASCII above the space
unfoldable pub is_above_space : ℕ → Bool
is_above_space b = nat_lt 32 b && nat_lt b 128

-- whether a text ends in a normal character and has only normal characters and single spaces
-- between them, given whether a normal character stands before it
abbrev pub is_stretch : (after_normal : Bool) → (text : List ℕ) → Bool
is_stretch after_normal [] = after_normal
is_stretch after_normal (c ∷ cs) =
    (is_normal c || ((c == 32) && after_normal)) && is_stretch (is_normal c) cs

-- a character before others, given whether it is a carriage return
abbrev pub char_before : (is_return : Bool) → Option ℕ
char_before true = Some 13
char_before false = None

-- whether a character is normal, or a space between two that are
abbrev pub is_within : (after_normal : Bool) (c : ℕ) (after : List ℕ) → Bool
is_within after_normal c after =
    is_normal c || ((c == 32) && after_normal && is_normal_there (first_char after))

-- whether each of these characters stands in a stretch, given what stands around them
abbrev pub are_within : (after_normal : Bool) (text after : List ℕ) → Bool
are_within after_normal [] after = true
are_within after_normal (c ∷ cs) after =
    is_within after_normal c (cs ++ after) && are_within (is_normal c) cs after

-- whether a normal character stands last, given whether one stands before the text
abbrev pub ends_normal : (after_normal : Bool) (text : List ℕ) → Bool
ends_normal after_normal [] = after_normal
ends_normal after_normal (c ∷ cs) = ends_normal (is_normal c) cs

-- the rest of a text stands behind characters that stand in a stretch; whether the last is normal
pub record Passes (after_normal : Bool) (text : List ℕ) (ends : Bool) (rest : List ℕ) : Type 0 where
  pub front : List ℕ
  pub split : text ≡ front ++ rest
  pub front_utf8 : IsUtf8 front
  pub within : are_within after_normal (chars front) (chars rest) ≡ true
  pub ends_so : ends_normal after_normal (chars front) ≡ ends
