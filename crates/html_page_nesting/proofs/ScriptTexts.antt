-- The last eight characters of a script's text suffice to go on with it.
use Rattle.std.proofs.Common.{◌≡◌, ℕ, zero, suc, ◌+◌, ◌-◌, ◌<◌, ◌≤◌, true, false, ◌&&◌, eqb, ◌⊎◌, inl, inr, List, [], ◌∷◌, ◌++◌, codes, bytes_eq, length, drop, map, refl, ap, sym, ◌∙◌, append_assoc, arith, length-append, length-drop, Option, Some, None}
use Rattle.std.proofs.{Math.Seq.{drop-append-add}, lemmas.Slice.Eq.{bytes_eq-Decides}}
use Rattle.std.proofs.lemmas.Bool.{and_left, and_parts, cases_order, eqb-true, false_from_ne_true}
use Rattle.std.proofs.lemmas.{List.{drop-append-le, drop-drop, length-map}}
use Rattle.std.specs.{Char.{to_ascii_lowercase}, List.{fold, list_all}, Prelude.{if◌then◌else◌, nat_lt, ◌==◌, slice_set, take}}
use Rattle.html_text.specs.{ClosingTags.{is_tag_end}, RawEnds.{ends_in}}
use Rattle.html_page_nesting.specs.ScriptTexts.{depth_behind, depth_past, first_kept, hides_end, is_in_script, kept_behind}

-- a list of eight whose first gives way to a last
pub shifted : (xs : List ℕ) (c : ℕ) → length xs ≡ 8 →
    slice_set (drop 1 xs ++ take 1 xs) 7 c ≡ drop 1 xs ++ c ∷ []
shifted (a ∷ b ∷ d ∷ e ∷ f ∷ g ∷ h ∷ i ∷ []) c is = refl
shifted xs c is = cc

lt-or-le : (n k : ℕ) → (n < k) ⊎ (k ≤ n)
lt-or-le n k = by_order (cases_order n k) where
  by_order : (n ≡ k) ⊎ ((n < k) ⊎ (k < n)) → (n < k) ⊎ (k ≤ n)
  by_order (inl same) = inr (omega (arith, same))
  by_order (inr (inl low)) = inl low
  by_order (inr (inr high)) = inr (omega (arith, high))

abbrev blanks : List ℕ
blanks = first_kept.1

-- the last eight characters of a text behind blanks
abbrev window : List ℕ → List ℕ
window t = drop (length t) (blanks ++ t)

window_more : (t : List ℕ) (c : ℕ) → drop 1 (window t) ++ c ∷ [] ≡ window (t ++ c ∷ [])
window_more t c =
    let low : length t + 1 ≤ length (blanks ++ t) = omega (arith, length-append blanks t) in
    let count : length t + 1 ≡ length (t ++ c ∷ []) = omega (arith, length-append t (c ∷ [])) in
    ap (λ l. l ++ c ∷ []) (drop-drop 1 (length t) (blanks ++ t))
    ∙ (sym (drop-append-le (length t + 1) (blanks ++ t) (c ∷ []) low)
    ∙ (ap (drop (length t + 1)) (append_assoc blanks t (c ∷ []))
    ∙ ap (λ n. drop n (blanks ++ (t ++ c ∷ []))) count))

module _ (w : ℕ) (ws : List ℕ) (seen : eqb 0 w ≡ false) where
  -- where blanks stand, no word begins
  blank_first : (zs t : List ℕ) (m : ℕ) → list_all (λ z. eqb z 0) zs ≡ true → m < length zs →
      bytes_eq (map to_ascii_lowercase (drop m (zs ++ t))) (w ∷ ws) ≡ false
  blank_first [] t m h low = absurd (omega (arith, low))
  blank_first (z ∷ zs) t zero h low =
      let blank : z ≡ 0 = eqb-true _ _ (and_parts _ _ h).0 in
      rw blank (and_left _ _ seen)
  blank_first (z ∷ zs) t (suc m) h low = blank_first zs t m (and_parts _ _ h).1 (omega (arith, low))

  too_short : (t : List ℕ) → length t < length (w ∷ ws) →
      bytes_eq (map to_ascii_lowercase t) (w ∷ ws) ≡ false
  too_short t low = false_from_ne_true _ (λ e.
      let same = ap length ((bytes_eq-Decides (map to_ascii_lowercase t) (w ∷ ws)).0 e) in
      omega (arith, low, same, length-map t to_ascii_lowercase))

  -- a text and its last eight characters end in the same words
  module _ (few : length (w ∷ ws) ≤ 8) (t : List ℕ) where
    abbrev n : ℕ
    n = length t

    abbrev k : ℕ
    k = length (w ∷ ws)

    abbrev whole : List ℕ
    whole = blanks ++ t

    cut : drop (length (window t) - k) (window t) ≡ drop (n + (8 - k)) whole
    cut =
        let count : length (window t) - k ≡ 8 - k =
        omega (arith, length-drop n whole, length-append blanks t) in
        ap (λ m. drop m (window t)) count ∙ drop-drop (8 - k) n whole

    by_length : (n < k) ⊎ (k ≤ n) → bytes_eq (map to_ascii_lowercase (drop (n + (8 - k)) whole))
        (w ∷ ws) ≡ ends_in (w ∷ ws) t
    by_length (inl low) =
        let none : n - k ≡ 0 = omega (arith, low) in
        let rest : drop (n - k) t ≡ t = ap (λ m. drop m t) none in
        blank_first blanks t (n + (8 - k)) refl (omega (arith, few, low))
        ∙ sym (ap (λ l. bytes_eq (map to_ascii_lowercase l) (w ∷ ws)) rest ∙ too_short t low)
    by_length (inr long) =
        let place : n + (8 - k) ≡ length blanks + (n - k) = omega (arith, few, long) in
        ap (λ l. bytes_eq (map to_ascii_lowercase l) (w ∷ ws))
        (ap (λ m. drop m whole) place ∙ drop-append-add blanks t (n - k))

    same_ends : ends_in (w ∷ ws) (window t) ≡ ends_in (w ∷ ws) t
    same_ends = ap (λ l. bytes_eq (map to_ascii_lowercase l) (w ∷ ws)) cut ∙ by_length (lt-or-le n k)

module _ (t : List ℕ) where
  opens : ends_in (codes "<!-") (window t) ≡ ends_in (codes "<!-") t
  opens = same_ends 60 (codes "!-") refl (omega arith) t

  dashes : ends_in (codes "--") (window t) ≡ ends_in (codes "--") t
  dashes = same_ends 45 (codes "-") refl (omega arith) t

  begins : ends_in (codes "<script") (window t) ≡ ends_in (codes "<script") t
  begins = same_ends 60 (codes "script") refl (omega arith) t

  ends : ends_in (codes "</script") (window t) ≡ ends_in (codes "</script") t
  ends = same_ends 60 (codes "/script") refl (omega arith) t

  same_depth : (d : Option ℕ) (c : ℕ) → depth_behind d (window t) c ≡ depth_behind d t c
  same_depth None c = refl
  same_depth (Some zero) c = λ i. if is_tag_end c && ends i then None
      else Some (if (c == 45) && opens i then 1 else 0)
  same_depth (Some (suc n)) c = λ i. if nat_lt (suc n) 2 && (is_tag_end c && ends i) then None
      else Some (if (c == 62) && dashes i then 0
      else (if is_tag_end c && (n == 0) && begins i then 2
      else (if is_tag_end c && (n == 1) && ends i then 1 else suc n)))

kept_depth : (d : Option ℕ) (t more : List ℕ) →
    (fold kept_behind (d, window t) more).0 ≡ depth_past d t more
kept_depth d t [] = refl
kept_depth d t (c ∷ cs) =
    ap (λ k. (fold kept_behind k cs).0) (λ i. (same_depth t d c i, window_more t c i))
    ∙ kept_depth (depth_behind d t c) (t ++ c ∷ []) cs

-- so does what is kept of a whole text
pub kept_end : (t : List ℕ) → is_in_script (fold kept_behind first_kept t).0 ≡ hides_end t
kept_end t = ap is_in_script (kept_depth (Some 0) [] t)
