-- White space at the front of a text, by bytes and by characters.
use Rattle.std.proofs.Common.{◌≡◌, ℕ, Bool, true, false, List, [], ◌∷◌, ◌++◌, Option, Some, None, IfSome, chars, refl, sym, ap, ◌∙◌, subst, arith}
use Rattle.std.proofs.lemmas.{Bool.{and_parts}, Str.{IsUtf8-past_char, chars_past_char, encodes-chars, len_utf8_bounds, scalars-chars}}
use Rattle.std.specs.{Str.{IsUtf8}, Str.Pattern.{CutsPrefixes, FindsPrefixBy, IsTrimStartMatches}}
use Rattle.html_page_read.specs.DocumentTypes.{past_spaces}
use Rattle.html_page_tree.specs.PageBodies.{is_space}
use lib.Utf8.{encode, encodes, scalar, scalars}

space_past : (c : ℕ) (cs : List ℕ) → is_space c ≡ true → past_spaces (c ∷ cs) ≡ past_spaces cs
space_past c cs is = rw is refl

stays : (cs : List ℕ) → ((c : ℕ) (rest : List ℕ) → cs ≡ c ∷ rest → is_space c ≡ false) →
    past_spaces cs ≡ cs
stays [] first = refl
stays (c ∷ cs) first = rw (first c cs refl) refl

trimmed : (r : List ℕ) (o : Option ℕ) → IsUtf8 r → FindsPrefixBy is_space r o →
    IfSome o (λ n. n ≡ 0) → past_spaces (chars r) ≡ chars r
trimmed r None u none h =
    stays (chars r) (λ c rest e.
    let are : scalars (c ∷ rest) ≡ true = sym (ap scalars e) ∙ scalars-chars r u in
    none c (encodes rest) (and_parts (scalar c) (scalars rest) are).0
    (sym (encodes-chars r u) ∙ ap encodes e))
trimmed r (Some n) u found h = absurd (omega (arith, (len_utf8_bounds found.0).0, found.2.ends, h))

-- what a pattern may answer that matches by each test of which `By` holds
abbrev Finds : ((ℕ → Bool) → Type 0) → List ℕ → Option ℕ → Type 0
Finds By s o = (is : ℕ → Bool) → By is → FindsPrefixBy is s o

module _ (By : (ℕ → Bool) → Type 0) where
  left : (s ns r : List ℕ) → IsUtf8 s → CutsPrefixes (Finds By) s ns r → By is_space →
      IsUtf8 r × (past_spaces (chars s) ≡ past_spaces (chars r))
  left s [] r u h by = (subst IsUtf8 (sym h) u, ap (λ l. past_spaces (chars l)) (sym h))
  left s (n ∷ ns) r u h by =
      let before = left s ns h.0 u h.1 by in
      let found = h.2 is_space by in
      let whole : h.0 ≡ encode found.0 ++ r =
      found.2.split ∙ ap (λ l. encode found.0 ++ l) (sym h.3) in (
        IsUtf8-past_char h.0 r found.0 before.0 whole,
        before.1 ∙ (ap past_spaces (chars_past_char h.0 r found.0 before.0 whole)
            ∙ space_past found.0 (chars r) found.1),
      )

  pub spaces_past : (s r : List ℕ) → IsUtf8 s → IsTrimStartMatches (Finds By) s r → By is_space →
      chars r ≡ past_spaces (chars s)
  spaces_past s r u h by =
      let cut = left s h.0.0 r u h.0.1 by in
      sym (cut.1 ∙ trimmed r h.1.0 cut.0 (h.1.1 is_space by) h.1.2)
