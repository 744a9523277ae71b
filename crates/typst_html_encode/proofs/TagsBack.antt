-- Start tags and end tags are read back.
use Rattle.std.proofs.Common.{◌≡◌, ℕ, Bool, true, false, not, ◌&&◌, inl, inr, eqb, List, [], ◌∷◌, ◌++◌, codes, refl, ap, ◌∙◌, arith, append_assoc}
use Rattle.std.proofs.lemmas.{Bool.{cases_Bool, and_parts, not-true}, List.{append-nil}, Bool.Decides.{nat_tests}}
use Rattle.std.{proofs.lemmas.Slice.Eq.{bytes_eq-Decides}, specs.List.{AllByRecursion}, specs.Prelude.{if◌then◌else◌}}
use Rattle.html_names_core.specs.Characters.{all, IsOf, is_tag_char, is_attr_char, is_text_char, is_value_char}
use Rattle.html_names_core.specs.Kinds.{is_foreign_self_closing}
use Rattle.html_dom_tree.specs.{PlainTree.{no_plains}, Tree.{TextPair}}
use Rattle.typst_html_encode.specs.declared.escape.Escaping.TheVariants as escaping
use Rattle.typst_html_encode.proofs.References.{reference_read, text_scalar, text_positive, text_good}
use Rattle.typst_html_encode.{proofs.Runs.{grows, read_on, all_of, left_empty, right_empty}, specs.ExportFaults.{attrs_faults}}
use Rattle.typst_html_encode.specs.Reader.{ReaderState, Content, Less, StartName, Space, AttrName, Value, ValueReference, Quoted, EndName, Open, with_text, complete, after_start_tag, holds_text_alone, run}
use Rattle.typst_html_encode.specs.{ReadingBack.{PairIsNamed}, Text.{char_text, escaped_text, value_text, attrs_text, tag_close}}

abbrev pub started : List ℕ → List TextPair → List Open → ReaderState
started name attrs s = if is_foreign_self_closing name then complete name attrs no_plains s
    else after_start_tag name attrs s

no_slash : (c : ℕ) → is_tag_char c ≡ true → eqb c 47 ≡ false
no_slash c h = grind (arith, nat_tests)

module _ (name : List ℕ) (attrs : List TextPair) (attr : List ℕ) (s : List Open) where
  value_one : (value : List ℕ) (c : ℕ) → is_text_char c ≡ true →
      run (Value name attrs attr value s) (char_text escaping.Value c)
      ≡ Value name attrs attr (value ++ c ∷ []) s
  value_one value c h = elim (cases_Bool (is_value_char c)) [
    | inl e ↦
        let parts = and_parts (is_text_char c && not (eqb c 38)) (not (eqb c 34)) e in
        rw (e, not-true _ parts.1, not-true _ (and_parts (is_text_char c) _ parts.0).1) refl
    | inr e ↦ rw e (reference_read
        (λ xs. ValueReference name attrs attr value xs s)
        (λ d. Value name attrs attr (value ++ d ∷ []) s) (λ xs d. refl)
        (Value name attrs attr value s) refl c (text_scalar c h) (text_positive c h))
  ]

  value_read : (value cs : List ℕ) → all is_text_char cs ≡ true →
      run (Value name attrs attr value s) (escaped_text escaping.Value cs)
      ≡ Value name attrs attr (value ++ cs) s
  value_read value [] h = rw append-nil refl
  value_read value (c ∷ cs) h =
      let both = and_parts (is_text_char c) (all is_text_char cs) h in
      read_on _ (char_text escaping.Value c) (escaped_text escaping.Value cs)
      (value_one value c both.0) (value_read (value ++ c ∷ []) cs both.1 ∙ simp append_assoc)

attr_named : (name : List ℕ) (attrs : List TextPair) (s : List Open) (n : List ℕ) →
    IsOf is_attr_char n → run (Space name attrs s) n ≡ AttrName name attrs n s
attr_named name attrs s [] h = absurd h
attr_named name attrs s (c ∷ cs) h = rw h.0 (grows (λ xs. AttrName name attrs xs s) is_attr_char
    (λ xs d k. rw k refl) (c ∷ []) cs h.1)

-- the end of a start tag
close_by : (b : Bool) (name : List ℕ) (attrs : List TextPair) (s : List Open) →
    is_foreign_self_closing name ≡ b → run (Quoted name attrs s)
    (if b then codes "/>" else codes ">") ≡ started name attrs s
close_by true name attrs s e = rw e refl
close_by false name attrs s e = rw e refl

attr_on : (name : List ℕ) (attrs : List TextPair) (n : List ℕ) (s : List Open)
    (ps : List TextPair) → run (AttrName name attrs n s) (attrs_text ps ++ tag_close name)
    ≡ run (Quoted name (attrs ++ (n, []) ∷ []) s) (attrs_text ps ++ tag_close name)
attr_on name attrs n s [] = elim (cases_Bool (is_foreign_self_closing name)) [
  | inl e ↦ rw e refl
  | inr e ↦ rw e refl
]
attr_on name attrs n s (p ∷ ps) = refl

name_on : (name : List ℕ) (s : List Open) (ps : List TextPair) →
    run (StartName name s) (attrs_text ps ++ tag_close name)
    ≡ run (Quoted name [] s) (attrs_text ps ++ tag_close name)
name_on name s [] = elim (cases_Bool (is_foreign_self_closing name)) [
  | inl e ↦ rw e refl
  | inr e ↦ rw e refl
]
name_on name s (p ∷ ps) = refl

valued : (name : List ℕ) (attrs : List TextPair) (n v : List ℕ) (s : List Open)
    (ps : List TextPair) →
    all is_text_char v ≡ true → run (AttrName name attrs n s)
    (value_text v ++ (attrs_text ps ++ tag_close name))
    ≡ run (Quoted name (attrs ++ (n, v) ∷ []) s) (attrs_text ps ++ tag_close name)
valued name attrs n [] s ps h = attr_on name attrs n s ps
valued name attrs n (c ∷ cs) s ps h =
    let tail = attrs_text ps ++ tag_close name in
    let v = c ∷ cs in
    ap (run (Value name attrs n [] s))
    (append_assoc (escaped_text escaping.Value v) (codes "\"") tail)
    ∙ read_on _ (escaped_text escaping.Value v) (34 ∷ tail) (value_read name attrs n s [] v h) refl

pub pairs_read : (name : List ℕ) (before ps : List TextPair) (s : List Open) (span : ℕ) →
    AllByRecursion PairIsNamed ps → attrs_faults span ps ≡ [] →
    run (Quoted name before s) (attrs_text ps ++ tag_close name) ≡ started name (before ++ ps) s
pairs_read name before [] s span h f = rw append-nil (close_by _ name before s refl)
pairs_read name before (p ∷ ps) s span h f =
    rw (append_assoc p.0, append_assoc (value_text p.1)) (read_on (Space name before s) p.0 _
    (attr_named name before s p.0 h.0)
    (valued name before p.0 p.1 s ps (text_good escaping.Value span p.1 (left_empty _ _ f))
    ∙ (pairs_read name (before ++ p ∷ []) ps s span h.1 (right_empty _ _ f)
    ∙ ap (λ l. started name l s) (append_assoc before (p ∷ []) ps))))

pub start_read : (name : List ℕ) (ps : List TextPair) (s : List Open) (span : ℕ) →
    IsOf is_tag_char name → AllByRecursion PairIsNamed ps → attrs_faults span ps ≡ [] →
    holds_text_alone s ≡ false → run (Less s) (name ++ (attrs_text ps ++ tag_close name))
    ≡ started name ps s
start_read [] ps s span n h f k = absurd n
start_read (c ∷ cs) ps s span n h f k =
    read_on (Less s) (c ∷ cs) (attrs_text ps ++ tag_close (c ∷ cs))
    (rw (no_slash c n.0, n.0, k) (grows (λ xs. StartName xs s) is_tag_char (λ xs d k. rw k refl)
    (c ∷ []) cs n.1)) (name_on (c ∷ cs) s ps ∙ pairs_read (c ∷ cs) [] ps s span h f)

pub end_read : (o : Open) (os : List Open) (text : List ℕ) → IsOf is_tag_char o.name →
    run (Content text (o ∷ os)) (codes "</" ++ (o.name ++ codes ">"))
    ≡ complete o.name o.attrs (with_text text o.children) os
end_read o os text h =
    let stack = record o { children = with_text text o.children } ∷ os in
    read_on (EndName [] stack) o.name (codes ">") (grows (λ xs. EndName xs stack) is_tag_char
    (λ xs c k. rw k refl) [] o.name (all_of is_tag_char o.name h))
    (rw ((bytes_eq-Decides o.name o.name).1 refl) refl)
