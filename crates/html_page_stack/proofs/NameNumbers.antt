-- The number of a name, by its bytes and in any case.
use Rattle.std.proofs.Common.{◌≡◌, ◌%◌, ◌-◌, ℕ, List, chars, get_or, inl, inr, length, arith, sym, ap, ◌∙◌}
use Rattle.std.proofs.Math.ListN.{get_or-map}
use Rattle.std.proofs.lemmas.{Bool.{cases_lt}, List.{length-map}, Str.{encodes-chars}, Str.Ascii.{lowercase_is}}
use Rattle.std.specs.{Char.{to_ascii_lowercase}, Str.{IsUtf8}}
use Rattle.html_page_names.{proofs.Lowered.{encodes-lowered}, specs.ForeignNames.{lowered}}
use Rattle.html_page_stack.specs.Milestones.{byte_number, name_number}
use lib.Utf8.{encodes}

pub number_of_bytes : (name bs : List ℕ) → IsUtf8 bs → chars bs ≡ name →
    byte_number bs ≡ name_number name
unfolding name_number
number_of_bytes name bs u is = ap byte_number (sym (encodes-chars bs u) ∙ ap encodes is)

same_low : (c : ℕ) → to_ascii_lowercase c % 32 ≡ c % 32
same_low c =
    elim (cases_lt c 65) [
      | inl below ↦ ap (λ x. x % 32) ((lowercase_is c).1 below)
      | inr above ↦ elim (cases_lt 90 c) [
        | inl high ↦ ap (λ x. x % 32) ((lowercase_is c).2 high)
        | inr low ↦ omega (arith, (lowercase_is c).0 (omega arith, omega arith))
      ]
    ]

low_number : (bs : List ℕ) → byte_number (lowered bs) ≡ byte_number bs
low_number bs =
    let last = length bs - 1 in
    omega (
      arith,
      length-map bs to_ascii_lowercase,
      ap (λ n. get_or (lowered bs) (n - 1) 0) (length-map bs to_ascii_lowercase),
      get_or-map to_ascii_lowercase bs 0 0,
      get_or-map to_ascii_lowercase bs last 0,
      same_low (get_or bs 0 0),
      same_low (get_or bs last 0),
    )

pub lowered_number : (name : List ℕ) → name_number (lowered name) ≡ name_number name
unfolding name_number
lowered_number name =
    ap byte_number (sym (encodes-lowered name)) ∙ low_number (encodes name)
