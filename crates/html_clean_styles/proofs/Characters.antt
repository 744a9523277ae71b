-- The characters of what stays: printable ASCII, and no `;` within a declaration.
use Rattle.std.proofs.Common.{◌≡◌, ℕ, ◌==◌, Bool, true, false, not, ◌&&◌, Option, Some, None, List, [], ◌∷◌, ◌++◌, bytes_eq, map, refl, sym, subst, inl, inr, arith}
use Rattle.std.proofs.lemmas.{Bool.{and_from, and_parts, cases_Bool, eqb-true, false≢true, or_cases}, Bool.Decides.{nat_tests}}
use Rattle.std.specs.{Char.{to_ascii_lowercase}, List.{list_all}, Prelude.{codes}, Str.{NonePass}}
use Rattle.html_names_core.{proofs.Basics.{bytes_eq-same}, specs.Characters.{is_text_char}, specs.Names.{stands_in}, specs.Texts.{TextPair}}
use Rattle.html_clean_styles.specs.Styles.{ArePropertyNames, declarations, declared, depth_behind, holds_in, is_mark, is_plain, is_plain_from, is_printable, is_property_char, is_property_name, is_space, is_word_char, joined, squeezed, written, cut_colon}

-- what a declaration may have in its one form
abbrev pub is_style_char : ℕ → Bool
is_style_char c = is_printable c && not (c == 59)

-- what each character of a text is if it is something else
pub all_are : (p q : ℕ → Bool) → ((c : ℕ) → p c ≡ true → q c ≡ true) → (cs : List ℕ) →
    list_all p cs ≡ true → list_all q cs ≡ true
all_are p q is [] h = refl
all_are p q is (c ∷ cs) h =
    let both = and_parts (p c) (list_all p cs) h in
    and_from (q c) (list_all q cs) (is c both.0) (all_are p q is cs both.1)

pub none_pass : (p q : ℕ → Bool) → ((c : ℕ) → p c ≡ true → q c ≡ false) → (cs : List ℕ) →
    list_all p cs ≡ true → NonePass q cs
none_pass p q is [] h = tt
none_pass p q is (c ∷ cs) h =
    let both = and_parts (p c) (list_all p cs) h in
    (is c both.0, none_pass p q is cs both.1)

pub list_all-append : (p : ℕ → Bool) (cs ds : List ℕ) → list_all p cs ≡ true → list_all p ds ≡ true →
    list_all p (cs ++ ds) ≡ true
list_all-append p [] ds h k = k
list_all-append p (c ∷ cs) ds h k =
    let both = and_parts (p c) (list_all p cs) h in
    and_from (p c) (list_all p (cs ++ ds)) both.0 (list_all-append p cs ds both.1 k)

pub property_style : (c : ℕ) → is_property_char c ≡ true → is_style_char c ≡ true
property_style c h = grind (arith, nat_tests)

pub property_shown : (c : ℕ) → is_property_char c ≡ true → is_space c ≡ false
unfolding is_space
property_shown c h = grind (arith, nat_tests)

pub property_small : (c : ℕ) → is_property_char c ≡ true → to_ascii_lowercase c ≡ c
property_small c h = grind (arith, nat_tests)

pub property_no_colon : (c : ℕ) → is_property_char c ≡ true → (c == 58) ≡ false
property_no_colon c h = grind (arith, nat_tests)

pub style_no_end : (c : ℕ) → is_style_char c ≡ true → (c == 59) ≡ false
style_no_end c h = grind (arith, nat_tests)

pub style_printable : (c : ℕ) → is_style_char c ≡ true → is_printable c ≡ true
style_printable c h = (and_parts (is_printable c) (not (c == 59)) h).0

pub printable_text : (c : ℕ) → is_printable c ≡ true → (is_text_char c && not (c == 13)) ≡ true
printable_text c h = grind (arith, nat_tests)

word_style : (c : ℕ) → is_word_char c ≡ true → is_style_char c ≡ true
unfolding is_word_char
word_style c h = grind (arith, nat_tests)

mark_style : (c : ℕ) → is_mark c ≡ true → is_style_char c ≡ true
unfolding is_mark
mark_style c h = grind (arith, nat_tests)

one_style : (c d : ℕ) → (c == d) ≡ true → is_style_char d ≡ true → is_style_char c ≡ true
one_style c d e h = subst (λ x. is_style_char x ≡ true) (sym (eqb-true c d e)) h

held : (p : ℕ → Bool) (o : Option ℕ) → holds_in p o ≡ true → (n : ℕ) × (o ≡ Some n) × (p n ≡ true)
held p None h = absurd (false≢true h)
held p (Some n) h = (n, refl, h)

other_style : (c : ℕ) (word : List ℕ) (depth behind : ℕ) → depth_behind c word depth ≡ Some behind →
    is_style_char c ≡ true
unfolding depth_behind
other_style c word depth behind e = elim (cases_Bool (is_mark c)) [
  | inl h ↦ mark_style c h
  | inr h ↦ elim (cases_Bool (c == 40)) [
    | inl k ↦ one_style c 40 k refl
    | inr k ↦ elim (cases_Bool (c == 41)) [
      | inl l ↦ one_style c 41 l refl
      | inr l ↦ let none = rw (h, k, l) at e in cc none
    ]
  ]
]

plain_from : (word : List ℕ) (depth : ℕ) (cs : List ℕ) → is_plain_from word depth cs ≡ true →
    list_all is_style_char cs ≡ true
unfolding is_plain_from
plain_from word depth [] h = refl
plain_from word depth (c ∷ cs) h = elim (cases_Bool (is_word_char c)) [
  | inl w ↦ and_from (is_style_char c) (list_all is_style_char cs) (word_style c w)
      (plain_from word depth cs (rw w at h))
  | inr o ↦
      let at = held (λ d. is_plain_from cs d cs) (depth_behind c word depth) (rw o at h) in
      and_from (is_style_char c) (list_all is_style_char cs) (other_style c word depth at.0 at.1)
      (plain_from cs at.0 cs at.2)
]

plain_style : (value : List ℕ) → is_plain value ≡ true → list_all is_style_char value ≡ true
unfolding is_plain
plain_style [] h = absurd (false≢true h)
plain_style (c ∷ cs) h = plain_from (c ∷ cs) 0 (c ∷ cs) h

name_chars : (name : List ℕ) → is_property_name name ≡ true → list_all is_property_char name ≡ true
name_chars [] h = refl
name_chars (c ∷ cs) h = h

-- a name that is listed has only characters of properties
pub listed : (properties : List (List ℕ)) (name : List ℕ) → ArePropertyNames properties →
    stands_in properties name ≡ true → list_all is_property_char name ≡ true
unfolding stands_in
listed [] name ok h = absurd (false≢true h)
listed (p ∷ ps) name ok h =
    let both = and_parts (is_property_name p) (list_all is_property_name ps) ok in
    elim (or_cases (bytes_eq p name) (stands_in ps name) h) [
      | inl e ↦ subst (λ n. list_all is_property_char n ≡ true) (bytes_eq-same p name e)
          (name_chars p both.0)
      | inr e ↦ listed ps name both.1 e
    ]

module _ (properties : List (List ℕ)) (ok : ArePropertyNames properties) where
  written_style : (name value : List ℕ) → list_all is_style_char (written properties name value) ≡ true
  unfolding written
  written_style name value = elim (cases_Bool (stands_in properties name && is_plain value)) [
    | inl h ↦
        let both = and_parts (stands_in properties name) (is_plain value) h in
        rw h (list_all-append is_style_char name (codes ": " ++ value)
        (all_are is_property_char is_style_char property_style name (listed properties name ok both.0))
        (plain_style value both.1))
    | inr h ↦ rw h refl
  ]

  pub declared_style : (o : Option TextPair) → list_all is_style_char (declared properties o) ≡ true
  unfolding declared
  declared_style None = refl
  declared_style (Some x) =
      written_style (map to_ascii_lowercase (squeezed x.0)) (squeezed x.1)

  joined_printable : (a b : List ℕ) → list_all is_printable a ≡ true → list_all is_printable b ≡ true →
      list_all is_printable (joined a b) ≡ true
  unfolding joined
  joined_printable [] b h k = k
  joined_printable (x ∷ xs) [] h k = h
  joined_printable (x ∷ xs) (y ∷ ys) h k =
      list_all-append is_printable (x ∷ xs) (codes "; " ++ y ∷ ys) h k

  pub declarations_printable : (ps : List (List ℕ)) →
      list_all is_printable (declarations properties ps) ≡ true
  unfolding declarations
  declarations_printable [] = refl
  declarations_printable (p ∷ ps) =
      joined_printable (declared properties (cut_colon p)) (declarations properties ps)
      (all_are is_style_char is_printable style_printable (declared properties (cut_colon p))
      (declared_style (cut_colon p)))
      (declarations_printable ps)
