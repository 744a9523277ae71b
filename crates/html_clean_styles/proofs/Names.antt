-- Texts, names and declarations.
use Rattle.std.proofs.Common.{◌≡◌, ℕ, Bool, true, false, ◌&&◌, Some, List, [], ◌++◌, String, Global, string_bytes, bytes_eq, map, refl, sym, ap, ◌∙◌, append_assoc}
use Rattle.std.proofs.lemmas.Str.{IsUtf8-string_bytes}
use Rattle.std.specs.{Char.{to_ascii_lowercase}, Prelude.{codes}}
use Rattle.html_names_core.proofs.Lists.{bytes_eq-chars}
use Rattle.html_names_core.specs.{Names.{stands_in}, Texts.{text_view}}
use Rattle.html_clean_styles.specs.Styles.{declared, is_plain, squeezed, written}

pub same_texts : (a b : String Global) →
    bytes_eq (text_view a) (text_view b) ≡ bytes_eq (string_bytes a) (string_bytes b)
same_texts a b =
    bytes_eq-chars (string_bytes a) (string_bytes b) (IsUtf8-string_bytes a) (IsUtf8-string_bytes b)

pub none_written : (properties : List (List ℕ)) (name value : List ℕ) (stays : Bool) →
    stays ≡ (stands_in properties name && is_plain value) → stays ≡ false →
    written properties name value ≡ []
unfolding written
none_written properties name value stays is e = rw (sym is ∙ e) refl

pub all_written : (properties : List (List ℕ)) (name value a b c d : List ℕ) (stays : Bool) →
    stays ≡ (stands_in properties name && is_plain value) → stays ≡ true → a ≡ [] → b ≡ a ++ name →
    c ≡ b ++ codes ": " → d ≡ c ++ value → d ≡ written properties name value
unfolding written
all_written properties name value a b c d stays is e none one two three =
    let front : c ≡ name ++ codes ": " =
    two ∙ ap (λ l. l ++ codes ": ") (one ∙ ap (λ l. l ++ name) none) in
    rw (sym is ∙ e) (three ∙ (ap (λ l. l ++ value) front ∙ append_assoc name (codes ": ") value))

pub declared_is : (properties : List (List ℕ)) (before behind squeezed_name name value : List ℕ) →
    squeezed_name ≡ squeezed before → name ≡ map to_ascii_lowercase squeezed_name →
    value ≡ squeezed behind →
    written properties name value ≡ declared properties (Some (before, behind))
unfolding declared
declared_is properties before behind squeezed_name name value one two three =
    ap (λ n. written properties n value) (two ∙ ap (map to_ascii_lowercase) one)
    ∙ ap (written properties (map to_ascii_lowercase (squeezed before))) three
