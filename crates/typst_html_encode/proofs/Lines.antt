-- Lines: what they keep of what holds of a text, and those of a text's bytes and of its characters.
use Rattle.std.proofs.Common.{◌≡◌, ◌⊎◌, ℕ, suc, ◌+◌, ◌-◌, ◌<◌, ◌≤◌, ◌/◌, List, [], ◌∷◌, ◌++◌, true, false, cond, ltb, length, take, get_or, refl, ap, sym, ◌∙◌, subst, inl, inr, append_assoc, append-nil, arith, length-append, chars, IsUtf8}
use Rattle.std.proofs.Math.Seq.{take-append_seam, get_or-append_seam}
use Rattle.std.proofs.lemmas.{Bool.{cases_Bool, and_parts, and_from, eqb-true, ne_eqb}, List.{take_more, take_all}}
use Rattle.std.proofs.lemmas.Str.{chars-encodes, encodes-chars, scalars-chars, encodes-append, encode_ascii, length-le-encodes}
use Rattle.std.proofs.lemmas.List.Splits.{join_with_byte-slice_split}
use Rattle.std.specs.{List.{AllByRecursion, slice_split, onto_first, join_with_byte}, Prelude.{◌==◌, map, slice_index}}
use Rattle.std.specs.Str.Lines.{lines, lines_of_parts, strip_carriage_return}
use lib.Utf8.{scalar, scalars, encode, encodes, next}

last_split : (l : List ℕ) (n : ℕ) → n + 1 ≡ length l → l ≡ take n l ++ get_or l n 0 ∷ []
last_split l n e = sym (take_all (n + 1) l (omega arith)) ∙ take_more l n 0 (omega arith)

-- a text without its last carriage return
last_return : (l : List ℕ) → (strip_carriage_return l ≡ l) ⊎
    (l ≡ strip_carriage_return l ++ 13 ∷ [])
last_return [] = inl refl
last_return (c ∷ cs) =
    elim (cases_Bool (slice_index (c ∷ cs) (length (c ∷ cs) - 1) == 13)) [
      | inl e ↦ inr (rw e (last_split (c ∷ cs) (length (c ∷ cs) - 1) (omega arith)
          ∙ ap (λ d. take (length (c ∷ cs) - 1) (c ∷ cs) ++ d ∷ [])
          (eqb-true (slice_index (c ∷ cs) (length (c ∷ cs) - 1)) 13 e)))
      | inr e ↦ inl (rw e refl)
    ]

-- of parts joined by a carriage return or a line feed it holds just where it holds of each
module _ (P : List ℕ → Type 0) (stripped : (q : List ℕ) → P (q ++ 13 ∷ []) → P q) where
  strip_keeps : (l : List ℕ) → P l → P (strip_carriage_return l)
  strip_keeps l h = elim (last_return l) [
    | inl e ↦ rw e h
    | inr e ↦ stripped _ (subst P e h)
  ]

  of_parts : (ps : List (List ℕ)) → AllByRecursion P ps → AllByRecursion P (lines_of_parts ps)
  of_parts [] h = tt
  of_parts ([] ∷ []) h = tt
  of_parts ((c ∷ cs) ∷ []) h = rw (ne_eqb (length (c ∷ cs)) 0 (λ e. omega arith)) h
  of_parts (x ∷ y ∷ more) h = (strip_keeps x h.0, of_parts (y ∷ more) h.1)

  module _ (Q : List ℕ → Type 0) (whole : (q : List ℕ) → Q q → P q)
      (parted : (q r : List ℕ) → Q (q ++ 10 ∷ r) → P q × Q r) where
    parts_are : (ps : List (List ℕ)) → Q (join_with_byte 10 ps) → AllByRecursion P ps
    parts_are [] h = tt
    parts_are (x ∷ []) h = (whole x h, tt)
    parts_are (x ∷ y ∷ more) h = let k = parted x (join_with_byte 10 (y ∷ more)) h in
        (k.0, parts_are (y ∷ more) k.1)

    pub lines_are : (s : List ℕ) → Q s → AllByRecursion P (lines s)
    lines_are s h = of_parts (slice_split (λ b. b == 10) s)
        (parts_are (slice_split (λ b. b == 10) s)
        (subst Q (sym (join_with_byte-slice_split 10 s)) h))

-- a list before the first part
abbrev onto : List ℕ → List (List ℕ) → List (List ℕ)
onto xs [] = xs ∷ []
onto xs (part ∷ parts) = (xs ++ part) ∷ parts

onto_none_first : (x : ℕ) (ps : List (List ℕ)) → onto [] (onto_first x ps) ≡ onto_first x ps
onto_none_first x [] = refl
onto_none_first x (p ∷ ps) = refl

onto_more : (x : ℕ) (xs : List ℕ) (ps : List (List ℕ)) →
    onto_first x (onto xs ps) ≡ onto (x ∷ xs) ps
onto_more x xs [] = refl
onto_more x xs (p ∷ ps) = refl

onto_none : (r : List ℕ) → onto [] (slice_split (λ b. b == 10) r) ≡ slice_split (λ b. b == 10) r
onto_none [] = refl
onto_none (x ∷ xs) = elim (cases_Bool (x == 10)) [
  | inl e ↦ rw e refl
  | inr e ↦ rw e (onto_none_first x (slice_split (λ b. b == 10) xs))
]

-- the byte is none of the list
abbrev lacks : ℕ → List ℕ → Type 0
lacks b = AllByRecursion (λ x. (x == b) ≡ false)

split_onto : (xs r : List ℕ) → lacks 10 xs → slice_split (λ b. b == 10) (xs ++ r)
    ≡ onto xs (slice_split (λ b. b == 10) r)
split_onto [] r f = sym (onto_none r)
split_onto (x ∷ xs) r f = rw (f.0, split_onto xs r f.1)
    (onto_more x xs (slice_split (λ b. b == 10) r))

high : (b n : ℕ) → b < 128 → 128 ≤ n → (n == b) ≡ false
high b n s h = ne_eqb n b (λ e. omega arith)

-- a character has the bytes below 128 that it is itself
encode_lacks : (b c : ℕ) → b < 128 → (c == b) ≡ false → lacks b (encode c)
unfolding encode
encode_lacks b c s f = elim (cases_Bool (ltb c 128)) [
  | inl e ↦ rw e (f, tt)
  | inr e ↦
      let last : (next c == b) ≡ false = high b (next c) s (omega arith) in
      let third : (next (c / 64) == b) ≡ false = high b (next (c / 64)) s (omega arith) in
      elim (cases_Bool (ltb c 2048)) [
        | inl g ↦ rw (e, g) (high b (192 + c / 64) s (omega arith), (last, tt))
        | inr g ↦ elim (cases_Bool (ltb c 65536)) [
          | inl k ↦ rw (e, g, k) (high b (224 + c / 4096) s (omega arith), (third, (last, tt)))
          | inr k ↦ rw (e, g, k) (
            high b (240 + c / 262144) s (omega arith),
            (high b (next (c / 4096)) s (omega arith), (third, (last, tt))),
          )
        ]
      ]
]

onto_map : (c : ℕ) (ps : List (List ℕ)) → onto (encode c) (map encodes ps)
    ≡ map encodes (onto_first c ps)
onto_map c [] = ap (λ l. l ∷ []) (sym (append-nil (encode c)))
onto_map c (p ∷ ps) = refl

split_encodes : (cs : List ℕ) → slice_split (λ b. b == 10) (encodes cs)
    ≡ map encodes (slice_split (λ b. b == 10) cs)
split_encodes [] = refl
split_encodes (c ∷ cs) =
    elim (cases_Bool (c == 10)) [
      | inl e ↦ rw (e, eqb-true c 10 e, encode_ascii 10 (omega arith), split_encodes cs) refl
      | inr e ↦ rw (
        split_onto (encode c) (encodes cs) (encode_lacks 10 c (omega arith) e),
        split_encodes cs,
        e,
      ) (onto_map c (slice_split (λ b. b == 10) cs))
    ]

-- the last carriage return

strip_last : (xs : List ℕ) (b : ℕ) → strip_carriage_return (xs ++ b ∷ [])
    ≡ cond (b == 13) xs (xs ++ b ∷ [])
strip_last xs b =
    let e : length (xs ++ b ∷ []) - 1 ≡ length xs = simp length-append (omega arith) in
    rw (e, get_or-append_seam xs b [] 0, take-append_seam xs (b ∷ [])) refl

-- the last byte of a character that is no carriage return
record EndsElse (xs : List ℕ) : Type 0 where
  front : List ℕ
  back : ℕ
  is : xs ≡ front ++ back ∷ []
  else_back : (back == 13) ≡ false

strip_else : (xs : List ℕ) → EndsElse xs → strip_carriage_return xs ≡ xs
strip_else xs r = rw (r.is, strip_last r.front r.back, r.else_back) refl

ends_after : (xs : List ℕ) {ys : List ℕ} → EndsElse ys → EndsElse (xs ++ ys)
ends_after xs r = record {
  front = xs ++ r.front;
  back = r.back;
  is = rw append_assoc (ap (λ l. xs ++ l) r.is);
  else_back = r.else_back;
}

ends_of : (xs : List ℕ) → 1 ≤ length xs → lacks 13 xs → EndsElse xs
ends_of [] l h = absurd (omega arith)
ends_of (x ∷ []) l h = record { front = []; back = x; is = refl; else_back = h.0 }
ends_of (x ∷ y ∷ ys) l h = ends_after (x ∷ []) (ends_of (y ∷ ys) (omega arith) h.1)

strip_encodes_last : (q : List ℕ) (d : ℕ) → strip_carriage_return (encodes (q ++ d ∷ []))
    ≡ encodes (strip_carriage_return (q ++ d ∷ []))
strip_encodes_last q d = elim (cases_Bool (d == 13)) [
  | inl e ↦ rw (
    eqb-true d 13 e,
    encodes-append q (13 ∷ []),
    encode_ascii 13 (omega arith),
    strip_last (encodes q) 13,
    strip_last q 13,
  ) refl
  | inr e ↦ rw (strip_last q d, e) (strip_else (encodes (q ++ d ∷ []))
      (rw (encodes-append q (d ∷ []), append-nil (encode d)) (ends_after (encodes q)
      (ends_of (encode d) (rw append-nil at (length-le-encodes (d ∷ [])))
      (encode_lacks 13 d (omega arith) e)))))
]

strip_encodes : (l : List ℕ) → strip_carriage_return (encodes l) ≡ encodes (strip_carriage_return l)
strip_encodes [] = refl
strip_encodes (c ∷ cs) =
    let e : c ∷ cs ≡ take (length cs) (c ∷ cs) ++ get_or (c ∷ cs) (length cs) 0 ∷ [] =
    last_split (c ∷ cs) (length cs) (omega arith) in
    subst (λ l. strip_carriage_return (encodes l) ≡ encodes (strip_carriage_return l)) (sym e)
    (strip_encodes_last (take (length cs) (c ∷ cs)) (get_or (c ∷ cs) (length cs) 0))

not_empty : (c : ℕ) (cs : List ℕ) → (length (encodes (c ∷ cs)) == 0) ≡ false
not_empty c cs = ne_eqb (length (encodes (c ∷ cs))) 0
    (λ e. let h : suc (length cs) ≤ length (encodes (c ∷ cs)) =
    length-le-encodes (c ∷ cs) in omega arith)

parts_encodes : (ps : List (List ℕ)) → lines_of_parts (map encodes ps)
    ≡ map encodes (lines_of_parts ps)
parts_encodes [] = refl
parts_encodes ([] ∷ []) = refl
parts_encodes ((c ∷ cs) ∷ []) =
    rw (not_empty c cs, ne_eqb (length (c ∷ cs)) 0 (λ e. omega arith)) refl
parts_encodes (x ∷ y ∷ more) = rw (strip_encodes x, parts_encodes (y ∷ more)) refl

lines_encodes : (cs : List ℕ) → lines (encodes cs) ≡ map encodes (lines cs)
lines_encodes cs = ap lines_of_parts (split_encodes cs)
    ∙ parts_encodes (slice_split (λ b. b == 10) cs)

-- lines of scalar values are lines of scalar values
scalars_parts : (a b : List ℕ) → scalars (a ++ b) ≡ true → (scalars a ≡ true) × (scalars b ≡ true)
scalars_parts [] b h = (refl, h)
scalars_parts (c ∷ cs) b h =
    let p = and_parts (scalar c) (scalars (cs ++ b)) h in
    let q = scalars_parts cs b p.1 in
    (and_from (scalar c) (scalars cs) p.0 q.0, q.1)

scalar_lines : (cs : List ℕ) → scalars cs ≡ true → AllByRecursion (λ l. scalars l ≡ true) (lines cs)
scalar_lines cs h = lines_are (λ l. scalars l ≡ true)
    (λ q k. (scalars_parts q (13 ∷ []) k).0) (λ l. scalars l ≡ true) (λ q k. k)
    (λ q r k. let p = scalars_parts q (10 ∷ r) k in (p.0, (and_parts true (scalars r) p.1).1)) cs h

chars_of_each : (ls : List (List ℕ)) → AllByRecursion (λ l. scalars l ≡ true) ls →
    map chars (map encodes ls) ≡ ls
chars_of_each [] h = refl
chars_of_each (l ∷ ls) h = rw (chars-encodes l h.0, chars_of_each ls h.1) refl

-- the characters of a text's lines
pub chars_of_lines : (bs : List ℕ) → IsUtf8 bs → map chars (lines bs) ≡ lines (chars bs)
chars_of_lines bs u =
    ap (λ t. map chars (lines t)) (sym (encodes-chars bs u))
    ∙ (ap (map chars) (lines_encodes (chars bs))
    ∙ chars_of_each (lines (chars bs)) (scalar_lines (chars bs) (scalars-chars bs u)))
