-- Raw text without a closing tag is read back.
use Rattle.std.proofs.Common.{◌≡◌, ℕ, ◌-◌, ◌<◌, Bool, true, false, ◌&&◌, List, [], ◌∷◌, ◌++◌, codes, length, take, drop, get_or, map, refl, ap, ◌∙◌, sym, append_assoc, arith, length-append}
use Rattle.std.proofs.lemmas.Bool.{and_parts, and_from, or_left, or_right, false_from_ne_true, false≢true, eq-eqb}
use Rattle.std.proofs.lemmas.List.{append-nil, take-append-drop, take_at, drop_at, drop-append-le, map-append, length-map}
use Rattle.std.proofs.lemmas.{Bool.Decides.{nat_tests}, Slice.Eq.{bytes_eq-Decides}}
use Rattle.std.specs.{Char.{to_ascii_lowercase}, Prelude.{if◌then◌else◌, ◌==◌}}
use Rattle.html_names_core.specs.Characters.{all, IsOf, is_tag_char}
use Rattle.html_text.specs.ClosingTags.{is_tag_end, closing, begins_closing, has_closing, holds_closing, ends_closing}
use Rattle.html_dom_tree.specs.{PlainTree.{no_plains}, Tree.{TextPair}}
use Rattle.typst_html_encode.{proofs.Runs.{read_on, all_of, grows}, specs.Reader.{Raw, Open, with_text, complete, run, step}}

holds_at : (k a s : List ℕ) → 0 < length s → begins_closing k s ≡ true → has_closing k (a ++ s) ≡ true
holds_at k [] [] l h = absurd (omega arith)
holds_at k [] (c ∷ cs) l h = or_left _ _ h
holds_at k (x ∷ a) s l h = or_right _ _ (holds_at k a s l h)

begins_own : (b : List ℕ) (c : ℕ) (rest : List ℕ) →
    begins_closing (map to_ascii_lowercase b) (b ++ c ∷ rest) ≡ is_tag_end c
begins_own [] c rest = refl
begins_own (d ∷ b) c rest = rw (eq-eqb (to_ascii_lowercase d) _ refl) (begins_own b c rest)

-- a text whose end is a closing tag, and an ending character after it
pub ends_holds : (name text : List ℕ) (c : ℕ) (rest : List ℕ) → is_tag_end c ≡ true →
    ends_closing name text ≡ true → holds_closing name (text ++ c ∷ rest) ≡ true
ends_holds name text c rest e h =
    let n = length text - length (closing name) in
    let a = take n text in
    let b = drop n text in
    let same : map to_ascii_lowercase b ≡ closing name = (bytes_eq-Decides _ _).0 h in
    let split : text ++ c ∷ rest ≡ a ++ (b ++ c ∷ rest) =
    ap (λ t. t ++ c ∷ rest) (sym (take-append-drop n text)) ∙ append_assoc a b (c ∷ rest) in
    ap (holds_closing name) split ∙ holds_at (closing name) a (b ++ c ∷ rest)
    (omega (arith, length-append b (c ∷ rest))) (rw (← same) (begins_own b c rest ∙ e))

abbrev pub is_not_less : ℕ → Bool
is_not_less c = if c == 60 then false else true

lower_not_less : (c : ℕ) → is_tag_char c ≡ true → is_not_less (to_ascii_lowercase c) ≡ true
lower_not_less c h = grind (arith, nat_tests)

name_no_end : (c : ℕ) → is_tag_char c ≡ true → is_tag_end c ≡ false
unfolding is_tag_end
name_no_end c h = grind (arith, nat_tests)

pub tag_ends : (is_tag_end 47 ≡ true) × (is_tag_end 60 ≡ false) × (is_tag_end 62 ≡ true)
unfolding is_tag_end
tag_ends = (refl, refl, refl)

lower_pass : (name : List ℕ) → all is_tag_char name ≡ true →
    all is_not_less (map to_ascii_lowercase name) ≡ true
lower_pass [] h = refl
lower_pass (c ∷ cs) h =
    let both = and_parts (is_tag_char c) (all is_tag_char cs) h in
    and_from _ _ (lower_not_less c both.0) (lower_pass cs both.1)

last_passes : (p : ℕ → Bool) (xs : List ℕ) (c : ℕ) → all p (xs ++ c ∷ []) ≡ true → p c ≡ true
last_passes p [] c h = (and_parts _ _ h).0
last_passes p (x ∷ xs) c h = last_passes p xs c (and_parts _ _ h).1

-- after a `<` no closing tag has ended
not_closing : (xs ys : List ℕ) → all is_not_less ys ≡ true → xs ++ 60 ∷ [] ≡ 60 ∷ 47 ∷ ys → ⊥
not_closing [] ys h e = absurd (omega (arith, ap length e))
not_closing (x ∷ []) ys h e = absurd (omega (arith, ap (λ l. get_or l 1 0) e))
not_closing (x ∷ y ∷ xs) ys h e =
    false≢true (last_passes is_not_less xs 60 (rw (ap (drop 2) e) h))

pub no_end_at_less : (name t : List ℕ) → all is_tag_char name ≡ true →
    ends_closing name (t ++ 60 ∷ []) ≡ false
no_end_at_less name t h = false_from_ne_true _ (λ e.
    let n = length (t ++ 60 ∷ []) - length (closing name) in
    let cut : drop n (t ++ 60 ∷ []) ≡ drop n t ++ 60 ∷ [] =
    drop-append-le n t (60 ∷ []) (omega (arith, length-append t (60 ∷ []))) in
    not_closing (map to_ascii_lowercase (drop n t)) (map to_ascii_lowercase name)
    (lower_pass name h) (sym (map-append to_ascii_lowercase (drop n t) (60 ∷ []))
    ∙ (ap (map to_ascii_lowercase) (sym cut) ∙ (bytes_eq-Decides _ _).0 e)))

module _ (name : List ℕ) (attrs : List TextPair) (s : List Open) where
  raw_more : (x cs : List ℕ) → holds_closing name (x ++ cs) ≡ false →
      run (Raw name attrs x s) cs ≡ Raw name attrs (x ++ cs) s
  raw_more x [] h = rw append-nil refl
  raw_more x (c ∷ cs) h =
      let here : (is_tag_end c && ends_closing name x) ≡ false = false_from_ne_true _ (λ e.
      let both = and_parts (is_tag_end c) (ends_closing name x) e in
      false≢true (sym h ∙ ends_holds name x c cs both.0 both.1)) in
      rw here (raw_more (x ++ c ∷ []) cs (rw append_assoc h) ∙ simp append_assoc)

  -- at the end tag's `>`
  raw_end : (t : List ℕ) → step (Raw name attrs (t ++ (codes "</" ++ name)) s) 62
      ≡ complete name attrs (with_text t no_plains) s
  raw_end t =
      let k = length (closing name) in
      let x : List ℕ = t ++ (codes "</" ++ name) in
      let long : length x - k ≡ length t = omega
      (arith, length-append t (codes "</" ++ name), length-map name to_ascii_lowercase) in
      let cut : drop (length x - k) x ≡ codes "</" ++ name =
      rw long (drop_at t _ (length t) refl) in
      let front : take (length x - k) x ≡ t = rw long (take_at t _ (length t) refl) in
      rw (
        tag_ends.2,
        (bytes_eq-Decides _ (closing name)).1 (ap (map to_ascii_lowercase) cut),
        (bytes_eq-Decides _ (codes "</" ++ name)).1 cut,
        front,
      ) refl

  -- nothing is cut at the end tag's own characters
  pub raw_back : (t : List ℕ) → IsOf is_tag_char name → holds_closing name t ≡ false →
      run (Raw name attrs [] s) (t ++ (codes "</" ++ (name ++ codes ">")))
      ≡ complete name attrs (with_text t no_plains) s
  raw_back t n h =
      let named : all is_tag_char name ≡ true = all_of is_tag_char name n in
      let x : List ℕ = (t ++ 60 ∷ []) ++ 47 ∷ [] in
      let less : step (Raw name attrs t s) 60 ≡ Raw name attrs (t ++ 60 ∷ []) s =
      rw tag_ends.1 refl in
      let early = no_end_at_less name t named in
      let slash : step (Raw name attrs (t ++ 60 ∷ []) s) 47 ≡ Raw name attrs x s =
      rw (tag_ends.0, early) refl in
      read_on (Raw name attrs [] s) t (codes "</" ++ (name ++ codes ">")) (raw_more [] t h)
      (ap (λ r. run r (47 ∷ (name ++ codes ">"))) less
      ∙ (ap (λ r. run r (name ++ codes ">")) slash
      ∙ read_on (Raw name attrs x s) name (codes ">") (grows (λ y. Raw name attrs y s) is_tag_char
      (λ y c k. rw (name_no_end c k) refl) x name named)
      (ap (λ y. step (Raw name attrs y s) 62)
      (append_assoc (t ++ 60 ∷ []) (47 ∷ []) name ∙ append_assoc t (60 ∷ []) (47 ∷ name))
      ∙ raw_end t)))
