-- A fragment with a directive, as a text and as its characters.
use Rattle.std.proofs.Common.{◌≡◌, ◌≢◌, ◌↔◌, ◌≤◌, ◌<◌, ℕ, List, [], ◌∷◌, ◌++◌, Bool, true, false, ◌||◌, ◌==◌, None, Some, chars, codes, length, get_or, take, drop, refl, sym, ap, subst, ◌∙◌, arith, append_assoc, length-append}
use Rattle.std.proofs.lemmas.{Bool.Decides.{Decides-eqb}, List.{drop_at, take_at, take-append-drop}}
use Rattle.std.proofs.lemmas.Str.{IsUtf8-from_ascii, IsUtf8-take, chars-append, encodes-append, encodes-chars, encodes-IsAscii, length-le-encodes}
use Rattle.std.proofs.lemmas.{List.Elements.{All-head, All-tail}, Slice.Eq.{starts_is}, Str.Pattern.{contains_text}}
use Rattle.std.specs.{Bool.{MatchBool}, List.{All}, Prelude.{if◌then◌else◌}, Str.{IsUtf8}}
use Rattle.std.specs.Str.{Iter.{HasSubslice}, Pattern.{FindsText, HasMatch}}
use lib.Seq.{get_or-append_seam}
use lib.Utf8.{encodes}
use Rattle.html_names_core.proofs.{Basics.{is_ascii_is}, Lists.{chars_ascii}}
use Rattle.html_links.specs.Directives.{begins_directive, has_directive, without_directive}

-- what begins a directive
abbrev pub mark : List ℕ
mark = codes ":~:"

begun : (cs : List ℕ) → begins_directive cs ≡ true → cs ≡ mark ++ drop 3 cs
begun cs e = (starts_is Decides-eqb cs mark (begins_directive cs) refl).0 e

-- a text has a directive exactly if the mark stands in it

pub marked : (xs ys : List ℕ) → has_directive (xs ++ (mark ++ ys)) ≡ true
unfolding has_directive
marked [] ys = refl
marked (x ∷ xs) ys = by (begins_directive (x ∷ (xs ++ (mark ++ ys)))) (marked xs ys)
  where
    by : (b : Bool) {c : Bool} → c ≡ true → (b || c) ≡ true
    by true e = refl
    by false e = e

pub mark_stands : (cs : List ℕ) → has_directive cs ≡ true →
    (xs : List ℕ) × (ys : List ℕ) × (cs ≡ xs ++ (mark ++ ys))
unfolding has_directive
mark_stands [] e = cc
mark_stands (c ∷ cs) e = by (begins_directive (c ∷ cs)) refl (mark_stands cs) e
  where
    by : (b : Bool) → begins_directive (c ∷ cs) ≡ b →
        (has_directive cs ≡ true → (xs : List ℕ) × (ys : List ℕ) × (cs ≡ xs ++ (mark ++ ys))) →
        (b || has_directive cs) ≡ true →
        (xs : List ℕ) × (ys : List ℕ) × (c ∷ cs ≡ xs ++ (mark ++ ys))
    by true is behind e = ([], drop 3 (c ∷ cs), begun (c ∷ cs) is)
    by false is behind e =
        let later = behind e in
        (c ∷ later.0, later.1, ap (λ l. c ∷ l) later.2)

-- without one, nothing is cut
pub nothing_cut : (cs : List ℕ) → has_directive cs ≡ false → without_directive cs ≡ cs
unfolding has_directive without_directive
nothing_cut [] e = refl
nothing_cut (c ∷ cs) e = by (begins_directive (c ∷ cs)) (nothing_cut cs) e
  where
    by : (b : Bool) → (has_directive cs ≡ false → without_directive cs ≡ cs) →
        (b || has_directive cs) ≡ false → (if b then [] else c ∷ without_directive cs) ≡ c ∷ cs
    by true behind e = cc
    by false behind e = ap (λ l. c ∷ l) (behind e)

-- a text without `:` has none
pub none_without_colon : (cs : List ℕ) → All (λ c. (58 == c) ≡ false) cs → has_directive cs ≡ false
unfolding has_directive
none_without_colon [] all = refl
none_without_colon (c ∷ cs) all =
    rw (All-head (λ d. (58 == d) ≡ false) c cs all)
    (none_without_colon cs (All-tail (λ d. (58 == d) ≡ false) c cs all))

-- no mark begins in a text that ends at another
abbrev IsFirst : (xs ys : List ℕ) → Type 0
IsFirst xs ys = (before : List ℕ) (x : ℕ) (behind rest : List ℕ) → xs ≡ before ++ x ∷ behind →
    (x ∷ behind) ++ (mark ++ ys) ≢ mark ++ rest

-- the text before the first mark
cut_first : (xs ys : List ℕ) → IsFirst xs ys → without_directive (xs ++ (mark ++ ys)) ≡ xs
unfolding without_directive
cut_first [] ys first = refl
cut_first (x ∷ xs) ys first =
    by (begins_directive (x ∷ (xs ++ (mark ++ ys)))) refl
    (cut_first xs ys (λ before y behind rest e. first (x ∷ before) y behind rest (ap (λ l. x ∷ l) e)))
  where
    by : (b : Bool) → begins_directive (x ∷ (xs ++ (mark ++ ys))) ≡ b →
        without_directive (xs ++ (mark ++ ys)) ≡ xs →
        (if b then [] else x ∷ without_directive (xs ++ (mark ++ ys))) ≡ x ∷ xs
    by true is later = absurd (first [] x xs _ refl (begun (x ∷ (xs ++ (mark ++ ys))) is))
    by false is later = ap (λ l. x ∷ l) later

-- in bytes

module _ (s : List ℕ) (u : IsUtf8 s) where
  before_utf8 : (xs ys : List ℕ) → s ≡ xs ++ (mark ++ ys) → IsUtf8 xs
  before_utf8 xs ys e =
      let at : get_or s (length xs) 0 ≡ 58 =
      ap (λ l. get_or l (length xs) 0) e ∙ get_or-append_seam xs 58 (126 ∷ 58 ∷ ys) 0 in
      let within : length xs ≤ length s = omega (arith, ap length e, length-append xs (mark ++ ys)) in
      subst IsUtf8 (ap (take (length xs)) e ∙ take_at xs (mark ++ ys) (length xs) refl)
      (IsUtf8-take s (length xs) u (within, λ inside large. absurd (omega (arith, at, large))))

  pub chars_split : (xs ys : List ℕ) → s ≡ xs ++ (mark ++ ys) →
      chars s ≡ chars xs ++ (mark ++ chars ys)
  chars_split xs ys e =
      ap chars e
      ∙ (chars-append xs (mark ++ ys) (before_utf8 xs ys e)
      ∙ ap (λ l. chars xs ++ l)
      (chars-append mark ys (IsUtf8-from_ascii mark (is_ascii_is mark refl))
      ∙ ap (λ l. l ++ chars ys) (chars_ascii mark refl)))

  bytes_split : (xs ys : List ℕ) → chars s ≡ xs ++ (mark ++ ys) →
      s ≡ encodes xs ++ (mark ++ encodes ys)
  bytes_split xs ys e =
      sym (encodes-chars s u)
      ∙ (ap encodes e
      ∙ (encodes-append xs (mark ++ ys)
      ∙ ap (λ l. encodes xs ++ l)
      (encodes-append mark ys
      ∙ ap (λ l. l ++ encodes ys) (encodes-IsAscii mark (is_ascii_is mark refl)))))

  pub contains_is : (found : Bool) →
      MatchBool found (HasMatch (FindsText mark) s) (FindsText mark s None) →
      found ≡ has_directive (chars s)
  contains_is found cases =
      by found (has_directive (chars s)) (contains_text found mark s cases) refl
    where
      by : (f h : Bool) → (f ≡ true) ↔ HasSubslice s mark → has_directive (chars s) ≡ h → f ≡ h
      by true true stands e = refl
      by false false stands e = refl
      by true false stands e =
          let at = stands.0 refl in
          cc (e, ap has_directive (chars_split at.0 at.1 at.2), marked (chars at.0) (chars at.1))
      by false true stands e =
          let at = mark_stands (chars s) e in
          stands.1 (encodes at.0, encodes at.1, bytes_split at.0 at.1 at.2)

  pub nothing_found : FindsText mark s None → chars s ≡ without_directive (chars s)
  nothing_found none = sym (nothing_cut (chars s) (sym (contains_is false none)))

  pub first_found : (i j : ℕ) (before : List ℕ) → FindsText mark s (Some (i, j)) →
      before ≡ take i s → length before ≡ i → chars before ≡ without_directive (chars s)
  first_found i j before found is long =
      let ys = drop j s in
      let split : s ≡ before ++ (mark ++ ys) =
      sym (take-append-drop i s) ∙ (ap (λ l. take i s ++ l) found.1.split
      ∙ ap (λ l. l ++ (mark ++ ys)) (sym is)) in
      let utf8 = before_utf8 before ys split in
      let whole = chars_split before ys split in
      sym (ap without_directive whole ∙ cut_first (chars before) (chars ys)
      (λ front x behind rest e same.
      let at : s ≡ encodes front ++ (mark ++ encodes rest) =
      bytes_split front rest
      (whole ∙ (ap (λ l. l ++ (mark ++ chars ys)) e
      ∙ (append_assoc front (x ∷ behind) (mark ++ chars ys) ∙ ap (λ l. front ++ l) same))) in
      let parts : before ≡ encodes front ++ encodes (x ∷ behind) =
      sym (encodes-chars before utf8) ∙ (ap encodes e ∙ encodes-append front (x ∷ behind)) in
      let early : length (encodes front) < i =
      omega (
        arith,
        long,
        ap length parts,
        length-append (encodes front) (encodes (x ∷ behind)),
        length-le-encodes (x ∷ behind),
      ) in
      found.0 (length (encodes front)) early (encodes rest)
      (ap (drop (length (encodes front))) at
      ∙ drop_at (encodes front) (mark ++ encodes rest) (length (encodes front)) refl)))
