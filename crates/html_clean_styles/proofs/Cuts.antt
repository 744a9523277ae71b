-- Texts that are cut at a character.
use Rattle.std.proofs.Common.{◌≡◌, ℕ, ◌<◌, ◌==◌, Option, Some, None, option_map, List, [], ◌∷◌, ◌++◌, length, take, drop, chars, IsUtf8, refl, sym, ap, ◌∙◌, subst, arith}
use Rattle.std.proofs.lemmas.{List.{take-append-drop}, Str.Pattern.{IsSplitOnceResult}}
use Rattle.std.proofs.lemmas.Str.{IsCharBoundary-before_ascii, IsUtf8-take, IsUtf8-drop, chars-append, chars_from_encodes, chars_past_char, len_utf8_bounds}
use Rattle.std.specs.{Borrow.{Bor}, Str.{NonePass, IsCharBoundary}}
use lib.Utf8.{encode}
use Rattle.html_clean_styles.specs.{Cuts.{IsCut, pair_view}, Styles.{cut_colon, pieces}}

-- `split_once` cuts so
pub cut_once : (mark : ℕ) (text : List ℕ) (r : Option (Bor (List ℕ) × Bor (List ℕ))) → mark < 128 →
    IsUtf8 text → IsSplitOnceResult mark text r → IsCut mark (chars text) r
cut_once mark text None ascii u found =
    subst (NonePass (λ c. c == mark)) (chars_from_encodes found.0 text u found.1) found.2
cut_once mark text (Some x) ascii u found =
    let i = found.0 in
    let at = found.2.1 in
    let within : i < length text = omega (arith, at.ends, found.7, (len_utf8_bounds mark).0) in
    let first : IsCharBoundary text i =
    IsCharBoundary-before_ascii text i within (omega (arith, at.byte ascii)) in
    let seam : drop i text ≡ encode mark ++ x.1.now =
    at.split ∙ ap (λ l. encode mark ++ l) (sym found.4) in
    let front : found.2.0.0 ≡ chars x.0.now =
    chars_from_encodes found.2.0.0 (take i text) (IsUtf8-take text i u first) found.2.0.1
    ∙ ap chars (sym found.3) in
    let back : chars (drop i text) ≡ mark ∷ chars x.1.now =
    chars_past_char (drop i text) x.1.now mark (IsUtf8-drop text i u first) seam in
    let whole : chars text ≡ chars x.0.now ++ mark ∷ chars x.1.now =
    ap chars (sym (take-append-drop i text))
    ∙ (chars-append (take i text) (drop i text) (IsUtf8-take text i u first)
    ∙ (ap (λ l. chars l ++ chars (drop i text)) (sym found.3) ∙ ap (λ l. chars x.0.now ++ l) back)) in
    (whole, subst (NonePass (λ c. c == mark)) front found.2.0.2)

pub colon_within : (xs ys : List ℕ) → NonePass (λ c. c == 58) xs →
    cut_colon (xs ++ 58 ∷ ys) ≡ Some (xs, ys)
unfolding cut_colon
colon_within [] ys h = refl
colon_within (x ∷ xs) ys h = rw (h.0, colon_within xs ys h.1) refl

no_colon : (xs : List ℕ) → NonePass (λ c. c == 58) xs → cut_colon xs ≡ None
unfolding cut_colon
no_colon [] h = refl
no_colon (x ∷ xs) h = rw (h.0, no_colon xs h.1) refl

-- a cut at `:` is the one that is defined
pub at_colon : (text : List ℕ) (r : Option (Bor (List ℕ) × Bor (List ℕ))) → IsCut 58 text r →
    option_map pair_view r ≡ cut_colon text
at_colon text None h = sym (no_colon text h)
at_colon text (Some x) h =
    sym (ap cut_colon h.0 ∙ colon_within (chars x.0.now) (chars x.1.now) h.1)

pub first_piece : (xs ys : List ℕ) → NonePass (λ c. c == 59) xs →
    pieces (xs ++ 59 ∷ ys) ≡ xs ∷ pieces ys
unfolding pieces
first_piece [] ys h = refl
first_piece (x ∷ xs) ys h = rw (h.0, first_piece xs ys h.1) refl

pub last_piece : (xs : List ℕ) → NonePass (λ c. c == 59) xs → pieces xs ≡ xs ∷ []
unfolding pieces
last_piece [] h = refl
last_piece (x ∷ xs) h = rw (h.0, last_piece xs h.1) refl
