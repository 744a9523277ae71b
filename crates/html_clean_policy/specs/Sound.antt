-- What each policy ensures of its texts.
use Rattle.std.specs.{List.{list_all}, Prelude.{ℕ, Bool, true, ◌&&◌, ◌||◌, ◌==◌, List, Option, Some, None}}
use Rattle.html_names_core.specs.Characters.{is_capital, is_digit, is_hyphen, is_lower}
use Rattle.html_clean_values.specs.Replaced.{is_plain_char}
use Rattle.html_clean_styles.specs.Styles.{is_property_name}

-- a letter, a digit, `-` or `_`
abbrev pub is_prefix_char : ℕ → Bool
is_prefix_char c = is_lower c || is_capital c || is_digit c || is_hyphen c || (c == 95)

abbrev pub is_rel_text : Option (List ℕ) → Bool
is_rel_text None = true
is_rel_text (Some rel) = list_all is_plain_char rel

abbrev pub are_sound :
    (properties : List (List ℕ)) (prefix : List ℕ) (rel : Option (List ℕ)) → Bool
are_sound properties prefix rel =
    list_all is_property_name properties && list_all is_prefix_char prefix && is_rel_text rel
