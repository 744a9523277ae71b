-- Beginnings of the references that are read: what may stand between `&` and `;`.
use Rattle.std.specs.List.{list_all}
use Rattle.std.specs.Prelude.{ℕ, Bool, false, not, ◌&&◌, ◌||◌, ◌==◌, nat_lt, nat_le, List, [], ◌∷◌, ◌++◌, codes, slice_index}
use Rattle.std.specs.Str.Parse.{digits_value}
use Rattle.html_names_core.specs.Characters.{is_digit}
pub use Rattle.html_text.specs.Words.{begins}

-- a small hexadecimal digit
abbrev pub is_small_digit : ℕ → Bool
is_small_digit c = is_digit c || (nat_le 97 c && nat_le c 102)

-- the number of a character begins with these digits, without leading zeros; there may be none. (A
-- surrogate's number begins that of another character.)
unfoldable pub begins_digits : List ℕ → Bool
begins_digits ds = list_all is_small_digit ds && (not (slice_index ds 0 == 48)
    && nat_lt (digits_value 16 ds) 0x11_0000)

-- `#x` followed by such digits
abbrev pub begins_number : List ℕ → Bool
begins_number [] = false
begins_number (x ∷ []) = false
begins_number (x ∷ y ∷ ds) = x == 35 && (y == 120 && begins_digits ds)

-- a reference that `reference` reads begins with these characters
unfoldable pub begins_reference : List ℕ → Bool
begins_reference cs = begins (codes "amp") cs || (begins (codes "lt") cs
    || (begins (codes "gt") cs || (begins (codes "quot") cs || (begins (codes "apos") cs
    || (begins (codes "#x") cs || begins_number cs)))))

-- the character may follow these characters, which stand behind `&`
abbrev pub continues_reference : (since : List ℕ) → ℕ → Bool
continues_reference since c = (c == 59) || begins_reference (since ++ c ∷ [])
