-- References are read back, and so are texts.
use Rattle.std.proofs.Common.{◌≡◌, ℕ, ◌<◌, Bool, true, false, not, ◌||◌, ◌&&◌, inl, inr, subst, eqb, List, [], ◌∷◌, ◌++◌, Some, codes, bytes_eq, arith, refl, ap, ◌∙◌, sym, append_assoc}
use Rattle.std.proofs.lemmas.{Bool.{cases_Bool, lt-ltb, eqb-true, and_from, and_parts, not-true}, Fmt.{digits_is_IsNumeral}}
use Rattle.std.proofs.lemmas.{List.{append-nil}, Bool.Decides.{nat_tests}, Slice.Eq.{bytes_eq-Decides}}
use Rattle.std.specs.{Char.{digit_value}, Fmt.{digits}, Prelude.{if◌then◌else◌}, Str.Parse.{AllDigits, digits_value}}
use Rattle.html_names_core.{proofs.Basics.{all_append}, specs.Characters.{all, is_text_char, is_element_text_char}}
use Rattle.html_dom_tree.specs.Tree.{tag_node, text_node, element_node, frame_node, NodesView, none, node}
use Rattle.typst_html_encode.specs.References.{numeric, numbered_char, reference, reference_to}
use Rattle.typst_html_encode.specs.{Text.{char_text, escaped_text, escaping_of, nodes_raw_text}, declared.escape.Escaping.{Escaping}}
use Rattle.typst_html_encode.proofs.Runs.{grows, read_on, left_empty, right_empty, test_fails}
use Rattle.typst_html_encode.specs.ExportFaults.{is_bad, char_faults, text_faults, nodes_raw_faults}
use Rattle.typst_html_encode.specs.Reader.{Content, Reference, Open, ReaderState, or_stop, run, step}
use lib.Utf8.{scalar, scalar_fits}

abbrev pub is_no_semicolon : ℕ → Bool
is_no_semicolon c = not (eqb c 59)

digit_passes : (c : ℕ) → digit_value c < 16 → is_no_semicolon c ≡ true
digit_passes c h = grind (arith, nat_tests)

digits_pass : (ds : List ℕ) → AllDigits 16 ds → all is_no_semicolon ds ≡ true
digits_pass [] h = refl
digits_pass (c ∷ cs) h = and_from (is_no_semicolon c) (all is_no_semicolon cs) (digit_passes c h.0)
    (digits_pass cs h.1)

pub numeric_is : (c : ℕ) → numeric c ≡ codes "&#x" ++ (digits 16 false c ++ codes ";")
unfolding numeric
numeric_is c = refl

pub numbered-digits : (c : ℕ) → scalar c ≡ true → 0 < c → numbered_char (digits 16 false c) ≡ Some c
numbered-digits c s h =
    let small = scalar_fits c s in
    let v : digits_value 16 (digits 16 false c) ≡ c =
    (digits_is_IsNumeral 16 false (omega arith) (omega arith) c (omega arith)).1 in
    let own : bytes_eq (digits 16 false c) (digits 16 false c) ≡ true =
    (bytes_eq-Decides (digits 16 false c) (digits 16 false c)).1 refl in
    let some = lt-ltb 0 c h in
    rw (v, own) (rw (s, some) refl)

-- what stands between `&` and `;`, where a character is written as a reference
abbrev pub Spelled : ℕ → Type 0
Spelled c =
    (between : List ℕ) × (reference_to c ≡ 38 ∷ (between ++ 59 ∷ []))
    × (all is_no_semicolon between ≡ true) × (reference between ≡ Some c)

by_name : (c named : ℕ) → eqb c named ≡ true → Spelled named → Spelled c
by_name c named e h = subst Spelled (sym (eqb-true c named e)) h

by_number : (c : ℕ) → scalar c ≡ true → 0 < c → reference_to c ≡ numeric c → Spelled c
by_number c s h e =
    let small = scalar_fits c s in
    let ds = digits 16 false c in
    let pass : all is_no_semicolon ds ≡ true =
    digits_pass ds (digits_is_IsNumeral 16 false (omega arith) (omega arith) c (omega arith)).0.1 in
    (35 ∷ 120 ∷ ds, e ∙ numeric_is c, pass, numbered-digits c s h)

spelled : (c : ℕ) → scalar c ≡ true → 0 < c → Spelled c
spelled c s h = elim (cases_Bool (eqb c 38)) [
  | inl e ↦ by_name c 38 e (codes "amp", refl, refl, refl)
  | inr e38 ↦ elim (cases_Bool (eqb c 60)) [
    | inl e ↦ by_name c 60 e (codes "lt", refl, refl, refl)
    | inr e60 ↦ elim (cases_Bool (eqb c 62)) [
      | inl e ↦ by_name c 62 e (codes "gt", refl, refl, refl)
      | inr e62 ↦ elim (cases_Bool (eqb c 34)) [
        | inl e ↦ by_name c 34 e (codes "quot", refl, refl, refl)
        | inr e34 ↦ elim (cases_Bool (eqb c 39)) [
          | inl e ↦ by_name c 39 e (codes "apos", refl, refl, refl)
          | inr e39 ↦ by_number c s h (rw (e38, e60, e62, e34, e39) refl)
        ]
      ]
    ]
  ]
]

-- states that hold what stands since `&`, and the state after the reference
module _ (since : List ℕ → ReaderState) (done : ℕ → ReaderState)
    (next : (xs : List ℕ) (c : ℕ) → step (since xs) c
    ≡ (if eqb c 59 then or_stop (reference xs) done else since (xs ++ c ∷ []))) where
  more_since : (xs : List ℕ) (c : ℕ) → is_no_semicolon c ≡ true →
      step (since xs) c ≡ since (xs ++ c ∷ [])
  more_since xs c h = next xs c ∙ rw (not-true (eqb c 59) h) refl

  pub reference_read : (before : ReaderState) → step before 38 ≡ since [] → (c : ℕ) →
      scalar c ≡ true → 0 < c → run before (reference_to c) ≡ done c
  reference_read before start c ok positive =
      let x : Spelled c = spelled c ok positive in
      ap (run before) x.1
      ∙ (ap (λ t. run t (x.0 ++ 59 ∷ [])) start
      ∙ read_on (since []) x.0 (59 ∷ [])
      (grows since is_no_semicolon more_since [] x.0 x.2)
      (next x.0 59 ∙ ap (λ o. or_stop o done) x.3))

pub text_scalar : (c : ℕ) → is_text_char c ≡ true → scalar c ≡ true
text_scalar c h = (and_parts _ _ (and_parts _ _ h).0).0

pub text_positive : (c : ℕ) → is_text_char c ≡ true → 0 < c
text_positive c h = grind (arith, nat_tests)

-- a character that is written as a reference
reference_char : (text : List ℕ) (p : List Open) (c : ℕ) → is_text_char c ≡ true →
    run (Content text p) (reference_to c) ≡ Content (text ++ c ∷ []) p
reference_char text p c h =
    reference_read (λ xs. Reference text xs p) (λ d. Content (text ++ d ∷ []) p) (λ xs d. refl)
    (Content text p) refl c (text_scalar c h) (text_positive c h)

-- a character that stands as it is
plain_char : (text : List ℕ) (p : List Open) (c : ℕ) → is_element_text_char c ≡ true →
    step (Content text p) c ≡ Content (text ++ c ∷ []) p
plain_char text p c h =
    let parts = and_parts (is_text_char c && not (eqb c 38)) (not (eqb c 60)) h in
    rw (not-true _ parts.1, not-true _ (and_parts (is_text_char c) _ parts.0).1) refl

char_read : (pre_span : Bool) (text : List ℕ) (p : List Open) (c : ℕ) → is_text_char c ≡ true →
    run (Content text p) (char_text (escaping_of pre_span) c) ≡ Content (text ++ c ∷ []) p
char_read true text p c h = reference_char text p c h
char_read false text p c h = elim (cases_Bool (is_element_text_char c)) [
  | inl e ↦ rw e (plain_char text p c e)
  | inr e ↦ rw e (reference_char text p c h)
]

pub chars_read : (pre_span : Bool) (text : List ℕ) (p : List Open) (cs : List ℕ) →
    all is_text_char cs ≡ true →
    run (Content text p) (escaped_text (escaping_of pre_span) cs) ≡ Content (text ++ cs) p
chars_read pre_span text p [] h = rw append-nil refl
chars_read pre_span text p (c ∷ cs) h =
    let e = escaping_of pre_span in
    let both = and_parts (is_text_char c) (all is_text_char cs) h in
    read_on _ (char_text e c) (escaped_text e cs) (char_read pre_span text p c both.0)
    (chars_read pre_span (text ++ c ∷ []) p cs both.1 ∙ simp append_assoc)

-- where nothing is wrong, each character is a text character

good_by : (b d : Bool) → (not b || d) ≡ false → b ≡ true
good_by true d h = refl
good_by false d h = cc

pub text_good : (e : Escaping) (span : ℕ) (cs : List ℕ) → text_faults e span cs ≡ [] →
    all is_text_char cs ≡ true
text_good e span [] h = refl
text_good e span (c ∷ cs) h =
    let one = test_fails (is_bad e c) _ (left_empty (char_faults e span c) _ h) in
    and_from (is_text_char c) (all is_text_char cs) (good_by (is_text_char c) _ one)
    (text_good e span cs (right_empty (char_faults e span c) _ h))

pub raw_good : (e : Escaping) (ns : NodesView) → nodes_raw_faults e ns ≡ [] →
    all is_text_char (nodes_raw_text ns) ≡ true
raw_good e none h = refl
raw_good e (node (tag_node t) ns) h = raw_good e ns h
raw_good e (node (text_node s span) ns) h =
    all_append is_text_char s (nodes_raw_text ns)
    (text_good e span s (left_empty _ _ h)) (raw_good e ns (right_empty _ _ h))
raw_good e (node (element_node g kids) ns) h = cc
raw_good e (node (frame_node b) ns) h = cc

pub text_read : (pre_span : Bool) (span : ℕ) (text : List ℕ) (p : List Open) (cs : List ℕ) →
    text_faults (escaping_of pre_span) span cs ≡ [] →
    run (Content text p) (escaped_text (escaping_of pre_span) cs) ≡ Content (text ++ cs) p
text_read pre_span span text p cs h = chars_read pre_span text p cs
    (text_good (escaping_of pre_span) span cs h)
