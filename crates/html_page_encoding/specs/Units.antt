-- Bytes of UTF-16, unit by unit and character by character.
use Rattle.std.specs.{Char.Utf16.{is_high_surrogate, is_low_surrogate, surrogate_pair_char}, Prelude.{◌≡◌, ℕ, ◌+◌, ◌<◌, ◌&&◌, Bool, true, List, [], ◌∷◌, length, if◌then◌else◌, Option, Some, None}}
use Rattle.html_page_encoding.specs.Decoded.{is_odd, put_first, units, utf16_from, utf16_size}

-- the bytes begin with a unit
pub record StartsUnit (big : Bool) (bytes : List ℕ) (u : ℕ) (rest : List ℕ) : Type 0 where
  pub units : units big bytes ≡ u ∷ units big rest
  pub odd : is_odd bytes ≡ is_odd rest
  pub small : u < 0x1_0000
  pub long : length bytes ≡ length rest + 2

-- there are no two bytes
pub record HasNoUnit (big : Bool) (bytes : List ℕ) : Type 0 where
  pub units : units big bytes ≡ []
  pub odd : 0 < length bytes → is_odd bytes ≡ true

-- the character of two surrogates that are partners
abbrev pub pair_char : (high low : ℕ) → Option ℕ
pair_char high low = if is_high_surrogate high && is_low_surrogate low
    then Some (surrogate_pair_char high low) else None

-- the bytes begin with a character
pub record StartsChar (big : Bool) (bytes : List ℕ) (c : ℕ) (rest : List ℕ) : Type 0 where
  pub decoded : (place : ℕ) → utf16_from big place bytes
      ≡ put_first c (utf16_from big (place + utf16_size c) rest)
  pub long : length bytes ≡ length rest + utf16_size c
