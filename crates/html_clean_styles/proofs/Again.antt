-- What stays of a style is cleaned once more, and stays as it is.
use Rattle.std.proofs.Common.{◌≡◌, ℕ, ◌==◌, Bool, true, false, not, ◌&&◌, Option, Some, None, List, [], ◌∷◌, ◌++◌, map, refl, ap, ◌∙◌, inl, inr}
use Rattle.std.proofs.lemmas.Bool.{and_parts, cases_Bool}
use Rattle.std.specs.{Char.{to_ascii_lowercase}, List.{list_all, onto_first}, Prelude.{codes, option_map}, Str.{NonePass}}
use Rattle.html_names_core.specs.{Characters.{is_text_char}, Names.{stands_in}, Texts.{TextPair}}
use Rattle.html_clean_styles.proofs.Characters.{all_are, declarations_printable, declared_style, is_style_char, listed, none_pass, printable_text, property_no_colon, property_shown, property_small, style_no_end}
use Rattle.html_clean_styles.proofs.{Cuts.{colon_within, first_piece, last_piece}, Joined.{none_follow}, Spaces.{squeezed_again}}
use Rattle.html_clean_styles.specs.Laws.{CleanStylesArePrintable, CleanStylesAreText, CleanStylesStay}
use Rattle.html_clean_styles.specs.Styles.{ArePropertyNames, clean_style, cut_colon, declaration, declarations, declared, is_plain, is_printable, is_property_char, is_space, joined, pieces, spaced, squeezed, squeezed_from, written}

squeezed_name : (begun : Bool) (name : List ℕ) → list_all is_property_char name ≡ true →
    squeezed_from begun false name ≡ name
unfolding squeezed_from spaced
squeezed_name begun [] h = refl
squeezed_name begun (c ∷ cs) h =
    let both = and_parts (is_property_char c) (list_all is_property_char cs) h in
    rw (property_shown c both.0) (ap (λ l. c ∷ l) (squeezed_name true cs both.1))

small_name : (name : List ℕ) → list_all is_property_char name ≡ true →
    map to_ascii_lowercase name ≡ name
small_name [] h = refl
small_name (c ∷ cs) h =
    let both = and_parts (is_property_char c) (list_all is_property_char cs) h in
    ap (λ x. x ∷ map to_ascii_lowercase cs) (property_small c both.0)
    ∙ ap (λ l. c ∷ l) (small_name cs both.1)

module _ (properties : List (List ℕ)) where
  -- a declaration in its one form is read as its name and its value
  read_again : (name value : List ℕ) → list_all is_property_char name ≡ true → squeezed value ≡ value →
      declaration properties (name ++ (codes ": " ++ value)) ≡ written properties name value
  unfolding declared squeezed_from is_space
  read_again name value are same =
      ap (declared properties) (colon_within name (32 ∷ value)
      (none_pass is_property_char (λ c. c == 58) property_no_colon name are))
      ∙ (ap (λ n. written properties (map to_ascii_lowercase n) (squeezed value))
      (squeezed_name false name are)
      ∙ (ap (λ n. written properties n (squeezed value)) (small_name name are)
      ∙ ap (written properties name) same))

  blank_before : (o : Option TextPair) →
      declared properties (option_map (λ x. (32 ∷ x.0, x.1)) o) ≡ declared properties o
  unfolding declared squeezed_from is_space
  blank_before None = refl
  blank_before (Some x) = refl

  after_blank : (piece : List ℕ) → declaration properties (32 ∷ piece) ≡ declaration properties piece
  unfolding cut_colon
  after_blank piece = blank_before (cut_colon piece)

  pieces_after_blank : (ps : List (List ℕ)) →
      declarations properties (onto_first 32 ps) ≡ declarations properties ps
  unfolding declarations declared joined cut_colon
  pieces_after_blank [] = refl
  pieces_after_blank (p ∷ ps) =
      ap (λ d. joined d (declarations properties ps)) (after_blank p)

  abbrev cleaned : List ℕ → List ℕ
  cleaned style = declarations properties (pieces style)

  cleaned_after_blank : (style : List ℕ) → cleaned (32 ∷ style) ≡ cleaned style
  unfolding pieces
  cleaned_after_blank style = pieces_after_blank (pieces style)

  -- one declaration, and others after it
  joined_again : (first next : List ℕ) → NonePass (λ c. c == 59) first →
      declaration properties first ≡ first → cleaned next ≡ next →
      cleaned (joined first next) ≡ joined first next
  unfolding joined declarations
  joined_again [] next none same more = more
  joined_again (x ∷ xs) [] none same more =
      ap (declarations properties) (last_piece (x ∷ xs) none)
      ∙ (none_follow (declaration properties (x ∷ xs)) [] refl ∙ same)
  joined_again (x ∷ xs) (y ∷ ys) none same more =
      ap (declarations properties) (first_piece (x ∷ xs) (32 ∷ y ∷ ys) none)
      ∙ (ap (λ d. joined d (cleaned (32 ∷ y ∷ ys))) same
      ∙ ap (joined (x ∷ xs)) (cleaned_after_blank (y ∷ ys) ∙ more))

  module _ (ok : ArePropertyNames properties) where
    written_again : (name value : List ℕ) → squeezed value ≡ value →
        declaration properties (written properties name value) ≡ written properties name value
    unfolding written cut_colon declared
    written_again name value same = elim (cases_Bool (stands_in properties name && is_plain value)) [
      | inl h ↦
          let both = and_parts (stands_in properties name) (is_plain value) h in
          let is : written properties name value ≡ name ++ (codes ": " ++ value) = rw h refl in
          ap (declaration properties) is
          ∙ read_again name value (listed properties name ok both.0) same
      | inr h ↦ rw h refl
    ]

    declared_again : (o : Option TextPair) →
        declaration properties (declared properties o) ≡ declared properties o
    unfolding declared cut_colon
    declared_again None = refl
    declared_again (Some x) =
        written_again (map to_ascii_lowercase (squeezed x.0)) (squeezed x.1) (squeezed_again x.1)

    all_again : (ps : List (List ℕ)) → cleaned (declarations properties ps) ≡ declarations properties ps
    unfolding declarations pieces declared cut_colon joined
    all_again [] = refl
    all_again (p ∷ ps) =
        joined_again (declaration properties p) (declarations properties ps)
        (none_pass is_style_char (λ c. c == 59) style_no_end (declaration properties p)
        (declared_style properties ok (cut_colon p)))
        (declared_again (cut_colon p)) (all_again ps)

pub clean_styles_stay : CleanStylesStay
unfolding clean_style
clean_styles_stay properties style ok = all_again properties ok (pieces style)

pub clean_styles_are_printable : CleanStylesArePrintable
unfolding clean_style
clean_styles_are_printable properties style ok = declarations_printable properties ok (pieces style)

pub clean_styles_are_text : CleanStylesAreText
clean_styles_are_text properties style ok =
    all_are is_printable (λ c. is_text_char c && not (c == 13)) printable_text
    (clean_style properties style) (clean_styles_are_printable properties style ok)
