-- Character references: how a character is written as one, and which are read. HTML Standard
-- 13.1.4, narrowed by this project to five names and to lower hexadecimal numbers without a leading
-- zero.
use Rattle.std.specs.Fmt.{digits}
use Rattle.std.specs.Prelude.{ℕ, false, ◌&&◌, ◌==◌, nat_lt, List, [], ◌∷◌, ◌++◌, if◌then◌else◌, codes, Option, Some, None, bytes_eq}
use Rattle.std.specs.Str.Parse.{digits_value}
use lib.Utf8.{scalar}

-- the number as `&#x..;`, in lower hexadecimal without leading zeros
unfoldable pub numeric : ℕ → List ℕ
numeric c = codes "&#x" ++ (digits 16 false c ++ codes ";")

-- a character as a reference
abbrev pub reference_to : ℕ → List ℕ
reference_to c = if c == 38 then codes "&amp;"
    else (if c == 60 then codes "&lt;" else (if c == 62 then codes "&gt;"
    else (if c == 34 then codes "&quot;" else (if c == 39 then codes "&apos;" else numeric c))))

-- the character that `&#x` digits `;` stands for: the digits are the one spelling of the number
abbrev pub numbered_char : List ℕ → Option ℕ
numbered_char ds = let c = digits_value 16 ds in if scalar c && nat_lt 0 c && bytes_eq ds
    (digits 16 false c) then Some c else None

abbrev pub reference_by_number : List ℕ → Option ℕ
reference_by_number [] = None
reference_by_number (x ∷ []) = None
reference_by_number (x ∷ y ∷ ds) = if x == 35 && y == 120 then numbered_char ds else None

-- the character that a reference stands for, by the text between `&` and `;`
abbrev pub reference : List ℕ → Option ℕ
reference ds = if bytes_eq ds (codes "amp") then Some 38
    else (if bytes_eq ds (codes "lt") then Some 60
    else (if bytes_eq ds (codes "gt") then Some 62
    else (if bytes_eq ds (codes "quot") then Some 34
    else (if bytes_eq ds (codes "apos") then Some 39 else reference_by_number ds))))
