-- Laws of what stays of the value of a `style` attribute.
use Rattle.std.specs.{List.{list_all}, Prelude.{◌≡◌, ℕ, ◌==◌, true, not, ◌&&◌, List}}
use Rattle.html_names_core.specs.Characters.{is_text_char}
use Rattle.html_clean_styles.specs.Styles.{ArePropertyNames, clean_style, is_printable}

-- what stays of a style stays as it is
abbrev pub CleanStylesStay : Type 0
CleanStylesStay = (properties : List (List ℕ)) (style : List ℕ) → ArePropertyNames properties →
    clean_style properties (clean_style properties style) ≡ clean_style properties style

-- its characters are printable ASCII
abbrev pub CleanStylesArePrintable : Type 0
CleanStylesArePrintable = (properties : List (List ℕ)) (style : List ℕ) →
    ArePropertyNames properties → list_all is_printable (clean_style properties style) ≡ true

-- and so text characters, and no carriage returns
abbrev pub CleanStylesAreText : Type 0
CleanStylesAreText = (properties : List (List ℕ)) (style : List ℕ) → ArePropertyNames properties →
    list_all (λ c. is_text_char c && not (c == 13)) (clean_style properties style) ≡ true
