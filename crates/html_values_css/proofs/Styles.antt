-- The text of a `style` attribute in bytes.
use Rattle.std.proofs.Common.{◌≡◌, ℕ, List, [], ◌∷◌, ◌++◌, codes, chars, IsUtf8, string_bytes, refl, ap, ◌∙◌}
use Rattle.std.proofs.lemmas.Str.{chars-append, chars-nil, IsUtf8-append, encodes-append, encodes-chars, IsUtf8-string_bytes}
use Rattle.std.specs.List.{flat_map}
use lib.Utf8.{encodes}
use Rattle.html_names_core.{proofs.Lists.{chars_ascii}, specs.Texts.{text_view}}
use Rattle.html_values_css.specs.Properties.{property_view, list_view, declaration, following_pairs, inline_text}
use Rattle.html_values_css.specs.declared.property.Property.{Property}

abbrev pub declaration_bytes : Property → List ℕ
declaration_bytes p = string_bytes p.name ++ codes ": " ++ string_bytes p.value

abbrev pub following_bytes : List Property → List ℕ
following_bytes = flat_map (λ p. codes "; " ++ declaration_bytes p)

abbrev pub inline_bytes : List Property → List ℕ
inline_bytes [] = []
inline_bytes (p ∷ ps) = declaration_bytes p ++ following_bytes ps

colon : encodes (codes ": ") ≡ codes ": "
unfolding lib.Utf8.encode
colon = refl

semicolon : encodes (codes "; ") ≡ codes "; "
unfolding lib.Utf8.encode
semicolon = refl

declaration_is : (p : Property) → encodes (declaration (property_view p)) ≡ declaration_bytes p
declaration_is p =
    rw (
      encodes-append (text_view p.name ++ codes ": ") (text_view p.value),
      encodes-append (text_view p.name) (codes ": "),
      encodes-chars (string_bytes p.name) (IsUtf8-string_bytes p.name),
      encodes-chars (string_bytes p.value) (IsUtf8-string_bytes p.value),
      colon,
    ) refl

following_is : (ps : List Property) → encodes (following_pairs (list_view ps)) ≡ following_bytes ps
following_is [] = refl
following_is (p ∷ ps) =
    rw (
      encodes-append (codes "; " ++ declaration (property_view p)) (following_pairs (list_view ps)),
      encodes-append (codes "; ") (declaration (property_view p)),
      semicolon,
      declaration_is p,
      following_is ps,
    ) refl

pub inline_is : (ps : List Property) → encodes (inline_text (list_view ps)) ≡ inline_bytes ps
inline_is [] = refl
inline_is (p ∷ ps) = rw (
  encodes-append (declaration (property_view p)) (following_pairs (list_view ps)),
  declaration_is p,
  following_is ps,
) refl

colon_chars : chars (codes ": ") ≡ codes ": "
colon_chars = chars_ascii (codes ": ") refl

pub semicolon_chars : chars (codes "; ") ≡ codes "; "
semicolon_chars = chars_ascii (codes "; ") refl

colon_text : IsUtf8 (codes ": ")
unfolding lib.Utf8.encode
colon_text = (codes ": ", (refl, refl))

semicolon_text : IsUtf8 (codes "; ")
unfolding lib.Utf8.encode
semicolon_text = (codes "; ", (refl, refl))

declaration_text : (p : Property) → IsUtf8 (declaration_bytes p)
declaration_text p = IsUtf8-append _ _ (IsUtf8-append _ _ (IsUtf8-string_bytes p.name) colon_text)
    (IsUtf8-string_bytes p.value)

declaration_chars : (p : Property) → chars (declaration_bytes p) ≡ declaration (property_view p)
declaration_chars p =
    chars-append (string_bytes p.name ++ codes ": ") (string_bytes p.value)
    (IsUtf8-append _ _ (IsUtf8-string_bytes p.name) colon_text)
    ∙ ap (λ t. t ++ text_view p.value) (chars-append (string_bytes p.name) (codes ": ")
    (IsUtf8-string_bytes p.name) ∙ ap (λ t. text_view p.name ++ t) colon_chars)

following_chars : (ps : List Property) → chars (following_bytes ps) ≡ following_pairs (list_view ps)
following_chars [] = chars-nil
following_chars (p ∷ ps) =
    chars-append (codes "; " ++ declaration_bytes p) (following_bytes ps)
    (IsUtf8-append _ _ semicolon_text (declaration_text p))
    ∙ ap (λ t. t ++ chars (following_bytes ps)) (chars-append (codes "; ") (declaration_bytes p)
    semicolon_text ∙ ap (λ t. t ++ chars (declaration_bytes p)) semicolon_chars
    ∙ ap (λ t. codes "; " ++ t) (declaration_chars p))
    ∙ ap (λ t. (codes "; " ++ declaration (property_view p)) ++ t) (following_chars ps)

inline_chars : (ps : List Property) → chars (inline_bytes ps) ≡ inline_text (list_view ps)
inline_chars [] = chars-nil
inline_chars (p ∷ ps) =
    chars-append (declaration_bytes p) (following_bytes ps) (declaration_text p)
    ∙ ap (λ t. t ++ chars (following_bytes ps)) (declaration_chars p)
    ∙ ap (λ t. declaration (property_view p) ++ t) (following_chars ps)

pub inline_characters : (ps : List Property) → chars (encodes (inline_text (list_view ps)))
    ≡ inline_text (list_view ps)
inline_characters ps = ap chars (inline_is ps) ∙ inline_chars ps
