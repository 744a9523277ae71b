-- A raw text on lines of its own holds no closing tag, where the text with a line feed holds none.
use Rattle.std.proofs.Common.{◌≡◌, ℕ, zero, suc, ◌+◌, List, [], ◌∷◌, ◌++◌, Bool, true, false, not, ◌&&◌, refl, ap, sym, ◌∙◌, inl, inr, append_assoc, append-nil, codes, map}
use Rattle.std.proofs.lemmas.Bool.{cases_Bool, and_parts, or_parts, or_from, not-true}
use Rattle.std.specs.{Char.{to_ascii_lowercase}, List.{AllByRecursion}, Prelude.{◌==◌}, Str.Lines.{lines}}
use Rattle.html_names_core.specs.Kinds.{is_raw}
use Rattle.html_text.specs.ClosingTags.{is_tag_end, closing, begins_closing, has_closing, holds_closing}
use Rattle.typst_html_encode.proofs.{Lines.{lines_are}, RawNames.{of_raw}}
use Rattle.typst_html_encode.specs.Layout.{spaces, indent, by_lines, keeps_lines, lines_text}

-- no character of the word is `e`
abbrev lacks : ℕ → List ℕ → Bool
lacks e [] = true
lacks e (x ∷ xs) = not (e == x) && lacks e xs

-- the lines after their indents, and then an indent, without the first line feed
abbrev after_feed : (outer inner : ℕ) → List (List ℕ) → List ℕ
after_feed outer inner [] = spaces outer
after_feed outer inner (l ∷ ls) = spaces inner ++ (l ++ 10 ∷ after_feed outer inner ls)

lines_after : (outer inner : ℕ) (ls : List (List ℕ)) →
    by_lines true (indent inner) ls ++ indent outer ≡ 10 ∷ after_feed outer inner ls
unfolding indent
lines_after outer inner [] = refl
lines_after outer inner (l ∷ ls) =
    rw (append_assoc (spaces inner), append_assoc l, lines_after outer inner ls) refl

-- a word that begins with `<`, and a text that goes on with a character that ends tags
module _ (xs : List ℕ) (feed : lacks 10 (60 ∷ xs) ≡ true) where
  -- the text with a line feed holds no such tag
  abbrev Ended : List ℕ → Type 0
  Ended s = has_closing (60 ∷ xs) (s ++ 10 ∷ []) ≡ false

  module _ (e : ℕ) (low : to_ascii_lowercase e ≡ e) (ends : is_tag_end e ≡ true)
      (lacking : lacks e (60 ∷ xs) ≡ true) where
    swapped : (c q r : List ℕ) → lacks e c ≡ true → lacks 10 c ≡ true →
        begins_closing c (q ++ e ∷ r) ≡ begins_closing c (q ++ 10 ∷ [])
    unfolding is_tag_end
    swapped [] [] r k l = ends
    swapped [] (y ∷ q) r k l = refl
    swapped (x ∷ c) [] r k l = rw (
      low,
      not-true (e == x) (and_parts _ _ k).0,
      not-true (10 == x) (and_parts _ _ l).0,
    ) refl
    swapped (x ∷ c) (y ∷ q) r k l = ap (λ t. (to_ascii_lowercase y == x) && t)
        (swapped c q r (and_parts (not (e == x)) _ k).1 (and_parts (not (10 == x)) _ l).1)

    begins_none : (r : List ℕ) → begins_closing (60 ∷ xs) (e ∷ r) ≡ false
    begins_none r = rw (low, not-true (e == 60) (and_parts _ _ lacking).0) refl

    cut : (q r : List ℕ) → has_closing (60 ∷ xs) (q ++ e ∷ r) ≡ false →
        Ended q × (has_closing (60 ∷ xs) r ≡ false)
    cut [] r h = (refl, (or_parts _ _ h).1)
    cut (y ∷ q) r h =
        let p = or_parts (begins_closing (60 ∷ xs) (y ∷ (q ++ e ∷ r))) _ h in
        let rest = cut q r p.1 in
        (or_from _ _ (sym (swapped (60 ∷ xs) (y ∷ q) r lacking feed) ∙ p.0) rest.0, rest.1)

    uncut : (q r : List ℕ) → Ended q → has_closing (60 ∷ xs) r ≡ false →
        has_closing (60 ∷ xs) (q ++ e ∷ r) ≡ false
    uncut [] r h k = or_from _ _ (begins_none r) k
    uncut (y ∷ q) r h k =
        let p = or_parts (begins_closing (60 ∷ xs) (y ∷ (q ++ 10 ∷ []))) _ h in
        or_from _ _ (swapped (60 ∷ xs) (y ∷ q) r lacking feed ∙ p.0) (uncut q r p.1 k)

  spaces_hold : (level : ℕ) (r : List ℕ) → has_closing (60 ∷ xs) r ≡ false →
      has_closing (60 ∷ xs) (spaces level ++ r) ≡ false
  spaces_hold zero r h = h
  spaces_hold (suc level) r h = spaces_hold level r h

  blanks_hold : (level : ℕ) → has_closing (60 ∷ xs) (spaces level) ≡ false
  blanks_hold level = rw (← append-nil (spaces level)) (spaces_hold level [] refl)

  module _ (back : lacks 13 (60 ∷ xs) ≡ true) where
    blanks_end : (is_tag_end 10 ≡ true) × (is_tag_end 13 ≡ true)
    unfolding is_tag_end
    blanks_end = (refl, refl)

    ended_after : (outer inner : ℕ) (ls : List (List ℕ)) → AllByRecursion Ended ls →
        has_closing (60 ∷ xs) (after_feed outer inner ls) ≡ false
    ended_after outer inner [] h = blanks_hold outer
    ended_after outer inner (l ∷ ls) h = spaces_hold inner (l ++ 10 ∷ after_feed outer inner ls)
        (uncut 10 refl blanks_end.0 feed l _ h.0 (ended_after outer inner ls h.1))

    lines_ended : (s : List ℕ) → Ended s → AllByRecursion Ended (lines s)
    lines_ended s h = lines_are Ended
        (λ q k. (cut 13 refl blanks_end.1 back q (10 ∷ []) (rw append_assoc at k)).0)
        Ended (λ q k. k)
        (λ q r k. cut 10 refl blanks_end.0 feed q (r ++ 10 ∷ []) (rw append_assoc at k)) s h

    kept_end : (level : ℕ) (s : List ℕ) → Ended s →
        has_closing (60 ∷ xs) (10 ∷ (s ++ indent level)) ≡ false
    unfolding indent
    kept_end level s k = uncut 10 refl blanks_end.0 feed s (spaces level) k (blanks_hold level)

    written_ended : (level : ℕ) (name s : List ℕ) → Ended s →
        has_closing (60 ∷ xs) (lines_text level name s) ≡ false
    unfolding lines_text
    written_ended level name s k = elim (cases_Bool (keeps_lines name s)) [
      | inl e ↦ rw e (kept_end level s k)
      | inr e ↦ rw (e, lines_after level (level + 1) (lines s))
          (ended_after level (level + 1) (lines s) (lines_ended s k))
    ]

pub lines_end : (level : ℕ) (name s : List ℕ) → is_raw name ≡ true →
    holds_closing name (s ++ codes "\n") ≡ false →
    holds_closing name (lines_text level name s) ≡ false
lines_end level name s r h = written_ended (47 ∷ map to_ascii_lowercase name)
    (of_raw (λ n. lacks 10 (closing n) ≡ true) name refl refl r)
    (of_raw (λ n. lacks 13 (closing n) ≡ true) name refl refl r) level name s h
