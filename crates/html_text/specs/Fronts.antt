-- Fronts of texts: characters of a class, which are found by their bytes and taken at once.
use Rattle.std.specs.List.{list_all}
use Rattle.std.specs.Prelude.{◌≡◌, ℕ, ◌+◌, ◌≤◌, ◌==◌, Bool, true, false, not, ◌||◌, ◌&&◌, nat_le, List, [], ◌∷◌, ◌++◌, bit_and, chars, get_or, length}
use Rattle.std.specs.Str.{IsUtf8}
use Rattle.html_names_core.specs.Characters.{all, is_digit, is_hyphen, is_lower}

-- the table has the byte under that bit
abbrev pub has_byte : (table : List ℕ) → (bit : ℕ) → ℕ → Bool
has_byte table bit b = not (bit_and (get_or table b 0) bit == 0)

-- a byte that is not had is the first of a character
abbrev pub StopsBetween : (has : ℕ → Bool) → Type 0
StopsBetween has = (b : ℕ) → has b ≡ false → 128 ≤ b → 192 ≤ b

abbrev pub begins_with : (has : ℕ → Bool) → List ℕ → Bool
begins_with has [] = false
begins_with has (b ∷ bs) = has b

-- the text is all the bytes at its front that are had, and the rest
pub record SplitsFront (has : ℕ → Bool) (text front rest : List ℕ) : Type 0 where
  pub parts : text ≡ front ++ rest
  pub front_utf8 : IsUtf8 front
  pub rest_utf8 : IsUtf8 rest
  pub had : list_all has front ≡ true
  pub stops : begins_with has rest ≡ false

-- the text begins with the front, and the rest follows
pub record BeginsWith (front text rest : List ℕ) : Type 0 where
  pub characters : chars text ≡ front ++ chars rest
  pub long : length text ≡ length front + length rest
  pub rest_utf8 : IsUtf8 rest

-- the text is all the characters at its front that pass the test, and the rest
pub record CutsAll (is : ℕ → Bool) (text front rest : List ℕ) : Type 0 where
  pub begins : BeginsWith front text rest
  pub are : all is front ≡ true
  pub stops : begins_with is rest ≡ false

-- visible ASCII and the space, without `"`, `&` and `<`
unfoldable pub is_common : ℕ → Bool
is_common c = (nat_le 61 c && nat_le c 126) || (nat_le 39 c && nat_le c 59)
    || (nat_le 32 c && nat_le c 33) || (nat_le 35 c && nat_le c 37)

-- a lowercase letter, a digit or `-`
abbrev pub is_name_char : ℕ → Bool
is_name_char c = is_lower c || is_digit c || is_hyphen c
