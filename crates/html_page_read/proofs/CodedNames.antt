-- What stands for a name that no element can have is a name.
use Rattle.std.proofs.Common.{◌≡◌, ℕ, ◌<◌, ◌^◌, true, false, List, [], ◌∷◌, ◌++◌, refl, ◌∙◌, arith}
use Rattle.std.proofs.lemmas.{Bool.{and_from}, Bool.Decides.{nat_tests}, Fmt.{digits_is_IsNumeral}, List.Folds.{list_all-append}}
use Rattle.std.specs.{Char.{digit_value}, Fmt.{digits}, List.{list_all}, Str.Parse.{AllDigits}}
use Rattle.html_names_core.specs.Characters.{is_tag_char}

digit_is : (c : ℕ) → digit_value c < 16 → is_tag_char c ≡ true
digit_is c h = grind (arith, nat_tests)

digits_are : (ds : List ℕ) → AllDigits 16 ds → list_all is_tag_char ds ≡ true
digits_are [] h = refl
digits_are (d ∷ ds) h = and_from (is_tag_char d) _ (digit_is d h.0) (digits_are ds h.1)

-- behind a number in hexadecimal digits, and a hyphen
pub coded_on : (text : List ℕ) (c : ℕ) → c < 2 ^ 32 → list_all is_tag_char text ≡ true →
    list_all is_tag_char ((text ++ digits 16 false c) ++ 45 ∷ []) ≡ true
coded_on text c small h =
    let numeral = (digits_is_IsNumeral 16 false (omega arith) (omega arith) c (omega (arith, small))).0 in
    list_all-append is_tag_char (text ++ digits 16 false c) (45 ∷ [])
    ∙ and_from _ _ (list_all-append is_tag_char text (digits 16 false c)
    ∙ and_from _ _ h (digits_are (digits 16 false c) numeral.1)) refl
