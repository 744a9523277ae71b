-- The numbers of names, and names that are put in use one after the other.
use Rattle.std.proofs.Common.{◌≡◌, ◌==◌, cond, length, Some, subst, ℕ, ◌<◌, ◌^◌, Bool, true, false, List, [], ◌∷◌, ◌++◌, chars, codes, bytes_eq, refl, ap, sym, ◌∙◌, string_bytes, String, Global, IsUtf8, arith, suc, ◌+◌, ◌≤◌, get_or, drop, add-one, drop-cons, Bor}
use Rattle.std.proofs.lemmas.{Bool.{ne_eqb}, Fmt.{IsAscii-decimal}}
use Rattle.std.proofs.lemmas.Str.{encodes-chars, chars-append, chars-IsAscii, IsUtf8-string_bytes, IsUtf8-from_ascii}
use Rattle.std.proofs.lemmas.{Map.Text.{btree_map_updates_text}, Slice.Eq.{bytes_eq-Decides}, Str.Ascii.{IsAscii-nil, IsAscii-cons}}
use Rattle.std.specs.{BTreeMap.{BTreeMap, get_by_text, Updates}, Prelude.{decimal}, Str.{IsAscii}, String.{string_cmp}}
use Rattle.html_names_core.{proofs.Lists.{chars_ascii}, specs.Texts.{text_view}}
use lib.Utf8.{encodes}
use Rattle.html_links.proofs.Gathering.{with-more, with-none}
use Rattle.html_links.specs.{Distinct.{names_view}, TreeNames.{Name, with_used_name}, UsedNames.{with_names}}
use Rattle.html_anchors.specs.{NewNames.{name_with_number, stem_of}, NumberedNames.{is_nothing, AreUsedBelow, IsCounted}}
use Rattle.std.proofs.lemmas.List.{drop_all}

dash : IsAscii (codes "-")
dash = IsAscii-cons 45 [] (omega arith) IsAscii-nil

pub numbered_is : (stem : List ℕ) (n : ℕ) → IsUtf8 stem → n < 2 ^ 64 →
    chars (stem ++ (codes "-" ++ decimal n)) ≡ name_with_number (chars stem) n
numbered_is stem n u l =
    chars-append stem (codes "-" ++ decimal n) u
    ∙ ap (λ t. chars stem ++ t)
    (chars-append (codes "-") (decimal n) (IsUtf8-from_ascii (codes "-") dash)
    ∙ (ap (λ t. t ++ chars (decimal n)) (chars-IsAscii (codes "-") dash)
    ∙ ap (λ t. codes "-" ++ t) (chars-IsAscii (decimal n) (IsAscii-decimal n l))))

pub nothing_is : (s : String Global) → (length (string_bytes s) == 0) ≡ is_nothing (text_view s)
nothing_is s = by_bytes (string_bytes s) (encodes-chars (string_bytes s) (IsUtf8-string_bytes s))
  where
    by_chars : (cs : List ℕ) (b : ℕ) (bs : List ℕ) → encodes cs ≡ b ∷ bs → false ≡ is_nothing cs
    by_chars [] b bs e = cc
    by_chars (c ∷ cs) b bs e = refl

    by_bytes : (bs : List ℕ) → encodes (chars bs) ≡ bs → (length bs == 0) ≡ is_nothing (chars bs)
    by_bytes [] e = rw (chars_ascii [] refl) refl
    by_bytes (b ∷ bs) e =
        ne_eqb (length (b ∷ bs)) 0 (λ z. absurd (omega (arith, z)))
        ∙ by_chars (chars (b ∷ bs)) b bs e

pub stem_of_nothing : (label : Name) → is_nothing label ≡ true → chars (codes "loc") ≡ stem_of label
stem_of_nothing [] e = chars_ascii (codes "loc") refl
stem_of_nothing (c ∷ cs) e = cc

-- a number more for a label
pub counted_more : (used : Name → Bool) (old new : BTreeMap (String Global) ℕ)
    (label : String Global) (number : ℕ) → IsCounted used old → AreUsedBelow used (text_view label) number →
    Updates string_cmp old new label (Some number) → IsCounted used new
counted_more used old new label number was so updates bs n e =
    by_test (bytes_eq (string_bytes label) bs) refl
    (sym (btree_map_updates_text (string_bytes label) old new (Some number) updates bs) ∙ e)
  where
    some_same : (a b : ℕ) → Some a ≡ Some b → a ≡ b
    some_same a b e = cc

    by_test : (b : Bool) → bytes_eq (string_bytes label) bs ≡ b →
        cond b (Some number) (get_by_text old bs) ≡ Some n → AreUsedBelow used (chars bs) n
    by_test true s e =
        let text : string_bytes label ≡ bs = (bytes_eq-Decides (string_bytes label) bs).0 s in
        subst (λ cs. AreUsedBelow used (chars cs) n) text
        (subst (AreUsedBelow used (text_view label)) (some_same number n e) so)
    by_test false s e = was bs n e

-- of references to names one more is put in use
pub put_in_turn : (names : List (Bor (String Global))) (i : ℕ) (name : Bor (String Global))
    (old new all : Name → Bool) → i < length names → with_names (names_view (drop i names)) old ≡ all →
    new ≡ with_used_name (text_view (get_or names i name).now) old →
    with_names (names_view (drop (i + 1) names)) new ≡ all
put_in_turn names i name old new all h so_far more =
    let rest = names_view (drop (suc i) names) in
    rw add-one
    (ap (with_names rest) more
    ∙ (sym (with-more (text_view (get_or names i name).now) rest old)
    ∙ (ap (λ ns. with_names (names_view ns) old) (sym (drop-cons names i name h)) ∙ so_far)))

pub all_put : (names : List (Bor (String Global))) (i : ℕ) (used all : Name → Bool) →
    length names ≤ i → with_names (names_view (drop i names)) used ≡ all → used ≡ all
all_put names i used all h so_far =
    sym (with-none used)
    ∙ (ap (λ ns. with_names (names_view ns) used) (sym (drop_all i names h)) ∙ so_far)
