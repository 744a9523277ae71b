-- Character references in a page (HTML Standard 13.2.5.72 to 13.2.5.80): named ones, some of them
-- without their `;`, and numbers, some of which stand for other characters.
use Rattle.std.specs.Prelude.{ℕ, zero, suc, Bool, true, false, not, ◌&&◌, ◌||◌, ◌==◌, nat_lt, nat_le, List, [], ◌∷◌, ◌++◌, if◌then◌else◌, take, drop, Option, Some, None}
use Rattle.std.specs.Str.Parse.{digits_value}
use Rattle.html_names_core.specs.Characters.{is_lower, is_capital, is_digit, is_control, is_noncharacter}
use Rattle.html_page_encoding.specs.Windows.{windows_char}
use Rattle.html_page_names.specs.NamedReferences.{named_reference, legacy_reference}
use Rattle.html_page_tree.specs.PageBodies.{is_space}
use Rattle.html_page_stack.specs.declared.error.PageError.{PageError}
use Rattle.html_page_stack.specs.declared.error.PageError.TheVariants as error

abbrev pub is_letter : ℕ → Bool
is_letter c = is_lower c || is_capital c

abbrev pub is_alphanumeric : ℕ → Bool
is_alphanumeric c = is_letter c || is_digit c

abbrev pub is_hex_digit : ℕ → Bool
is_hex_digit c = is_digit c || (nat_le 97 c && nat_le c 102) || (nat_le 65 c && nat_le c 70)

abbrev pub is_x : ℕ → Bool
is_x c = (c == 120) || (c == 88)

-- whether the character belongs to the reference behind `&#` and these characters
abbrev pub continues_number : List ℕ → ℕ → Bool
continues_number [] c = is_digit c || is_x c
continues_number (d ∷ ds) c = if is_x d then is_hex_digit c else is_digit c

-- whether the character belongs to the reference behind `&` and these characters
abbrev pub continues : (since : List ℕ) → ℕ → Bool
continues [] c = is_alphanumeric c || c == 35
continues (s ∷ ss) c = if s == 35 then continues_number ss c else is_alphanumeric c

-- the characters of a reference; whether the `;` behind it belongs to it; the error that there is
-- no `;`, or an error of its name; and an error of its number
pub record Resolved : Type 0 where
  pub chars : List ℕ
  pub takes_end : Bool
  pub missing : Option PageError
  pub error : Option PageError

-- a reference that stands for itself
abbrev pub itself : Option PageError → (since : List ℕ) → Resolved
itself missing since = record {
  chars = 38 ∷ since;
  takes_end = false;
  missing = missing;
  error = None;
}

abbrev pub is_end : Option ℕ → Bool
is_end None = false
is_end (Some c) = c == 59

abbrev pub is_surrogate : ℕ → Bool
is_surrogate c = nat_le 0xd800 c && nat_lt c 0xe000

-- the character of a number, which from 128 to 159 is a byte of windows-1252 (13.2.5.80)
abbrev pub numbered_char : ℕ → ℕ
numbered_char n = if n == 0 || nat_lt 0x10_ffff n || is_surrogate n then 0xfffd else windows_char n

abbrev pub number_error : ℕ → Option PageError
number_error n = if n == 0 then Some error.NullCharacterReference
    else (if nat_lt 0x10_ffff n then Some error.CharacterReferenceOutsideUnicodeRange
    else (if is_surrogate n then Some error.SurrogateCharacterReference
    else (if is_noncharacter n then Some error.NoncharacterCharacterReference
    else (if n == 13 || (is_control n && not (is_space n)) then Some error.ControlCharacterReference
    else None))))

abbrev pub missing_end : Option ℕ → Option PageError
missing_end behind =
    if is_end behind then None else Some error.MissingSemicolonAfterCharacterReference

abbrev pub numbered : ℕ → Option ℕ → Resolved
numbered n behind = record {
  chars = numbered_char n ∷ [];
  takes_end = is_end behind;
  missing = missing_end behind;
  error = number_error n;
}

abbrev pub resolved_number : (base : ℕ) (since digits : List ℕ) → Option ℕ → Resolved
resolved_number base since [] behind =
    itself (Some error.AbsenceOfDigitsInNumericCharacterReference) since
resolved_number base since (d ∷ ds) behind = numbered (digits_value base (d ∷ ds)) behind

abbrev pub resolved_digits : (since digits : List ℕ) → Option ℕ → Resolved
resolved_digits since [] behind = resolved_number 10 since [] behind
resolved_digits since (d ∷ ds) behind = if is_x d then resolved_number 16 since ds behind
    else resolved_number 10 since (d ∷ ds) behind

abbrev pub found_before : Option (List ℕ) → (rest : List ℕ) → Option (List ℕ × List ℕ) →
    Option (List ℕ × List ℕ)
found_before None rest other = other
found_before (Some found) rest other = Some (found, rest)

-- the longest name without a `;`, of at most so many characters, with which the characters begin:
-- the characters that it stands for, and those behind the name
abbrev pub longest_legacy : (at_most : ℕ) → List ℕ → Option (List ℕ × List ℕ)
longest_legacy zero cs = None
longest_legacy (suc n) cs = found_before (legacy_reference (take (suc n) cs)) (drop (suc n) cs)
    (longest_legacy n cs)

-- whether what follows a name without a `;` in a value makes it no reference (13.2.5.73)
abbrev pub is_followed : (rest : List ℕ) → Option ℕ → Bool
is_followed (c ∷ cs) behind = true
is_followed [] None = false
is_followed [] (Some c) = c == 61

abbrev pub resolved_legacy : (in_value : Bool) (since : List ℕ) → Option ℕ →
    Option (List ℕ × List ℕ) → Resolved
resolved_legacy in_value since behind None = itself
    (if is_end behind then Some error.UnknownNamedCharacterReference else None) since
resolved_legacy in_value since behind (Some found) = if in_value && is_followed found.1 behind
    then itself None since
    else record {
      chars = found.0 ++ found.1;
      takes_end = false;
      missing = Some error.MissingSemicolonAfterCharacterReference;
      error = None;
    }

abbrev pub resolved_name : (in_value : Bool) (since : List ℕ) → Option ℕ → Option (List ℕ) →
    Resolved
resolved_name in_value since behind (Some cs) =
    record { chars = cs; takes_end = true; missing = None; error = None }
resolved_name in_value since behind None =
    resolved_legacy in_value since behind (longest_legacy 6 since)

abbrev pub resolved_named : (in_value : Bool) (since : List ℕ) → Option ℕ → Resolved
resolved_named in_value since behind = resolved_name in_value since behind
    (if is_end behind then named_reference since else None)

-- the result of resolving a reference, from the characters behind `&` and the one behind them
unfoldable pub resolved : (in_value : Bool) (since : List ℕ) → Option ℕ → Resolved
resolved in_value [] behind = itself None []
resolved in_value (s ∷ ss) behind = if s == 35 then resolved_digits (s ∷ ss) ss behind
    else resolved_named in_value (s ∷ ss) behind
