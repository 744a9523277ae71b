-- Characters of tags: what they are not, and what a text of them leads to.
use Rattle.std.proofs.Common.{◌≡◌, ℕ, ◌+◌, ◌<◌, Bool, true, false, not, ◌&&◌, inl, inr, List, [], ◌∷◌, ◌++◌, eqb, map, refl, ap, ◌∙◌, arith, append_assoc, append-nil, None, find}
use Rattle.std.proofs.lemmas.Bool.{agree_below, agree_below_at, and_from, and_parts, cases_lt, Decides.{nat_tests}}
use Rattle.std.{proofs.lemmas.Str.Ascii.{lowercase_is}, specs.Char.{len_utf8, to_ascii_lowercase}}
use Rattle.html_names_core.specs.{Characters.{all, IsOf, is_attr_char, is_tag_char}, Names.{attr_fault}}
use Rattle.html_page_nesting.specs.WrittenTags.{begins_with_letter}
use Rattle.html_page_names.specs.ForeignNames.{lowered}
use Rattle.html_page_stack.specs.Pages.{Page, Token}
use Rattle.html_page_tree.specs.{PageBodies.{is_space}, PageTrees.{token_read}}
use Rattle.html_page_read.{proofs.{PageStretches.{other}, TagNames.{name_of_tag}}, specs.{PageReading.{run}, PageReferences.{is_letter}}}
use Rattle.html_page_read.specs.PageTokens.{PageReader, Reading, TagDraft, TagName, TokenState, goes, is_name, moved, step}
use Rattle.typst_html_nesting_laws.proofs.{Readers.{behind, reading_at, run_on}, Branches.{decide}}

-- in that state, where no carriage return was read before
abbrev pub at_state : TokenState → (fresh : Bool) (place : ℕ) → Page → PageReader
at_state s fresh place p = record { state = s; reading = reading_at fresh place p }

-- a text leads to that state, and leaves the page as it is
pub record Moves (q : PageReader) (text : List ℕ) (s : TokenState) (fresh : Bool) (p : Page) :
    Type 0 where
  pub place : ℕ
  pub is : run q text ≡ at_state s fresh place p

-- a text ends in the last character of a tag
pub record Finishes (q : PageReader) (text : List ℕ) (token : Token) (p : Page) : Type 0 where
  pub place : ℕ
  pub is : (after : Page) → token_read token p ≡ after →
      run q text ≡ behind token place after

pub moves_on : {q : PageReader} {s t : TokenState} {fresh : Bool} {p : Page} (xs ys : List ℕ) →
    Moves q xs s fresh p → ((place : ℕ) → Moves (at_state s fresh place p) ys t fresh p) →
    Moves q (xs ++ ys) t fresh p
moves_on xs ys h k =
    let m = k h.place in
    record { place = m.place; is = run_on _ _ _ xs ys h.is m.is }

pub finishes_on : {q : PageReader} {s : TokenState} {fresh : Bool} {p : Page} {token : Token}
    (xs ys : List ℕ) → Moves q xs s fresh p →
    ((place : ℕ) → Finishes (at_state s fresh place p) ys token p) → Finishes q (xs ++ ys) token p
finishes_on xs ys h k =
    let m = k h.place in
    record { place = m.place; is = λ after taken. run_on _ _ _ xs ys h.is (m.is after taken) }

-- one character
pub one_moves : (q : PageReader) (s : TokenState) (fresh : Bool) (place : ℕ) (p : Page) (c : ℕ) →
    step q c ≡ goes s (reading_at fresh place p) → Moves q (c ∷ []) s fresh p
one_moves q s fresh place p c h = record { place = place; is = ap (λ r. run r []) h }

-- a state that holds what it has read so far, each character as the function makes it
module _ (f : List ℕ → TokenState) (g : ℕ → ℕ) (ok : ℕ → Bool) (fresh : Bool) (p : Page)
    (one : (xs : List ℕ) (c place : ℕ) → ok c ≡ true → step (at_state (f xs) fresh place p) c
    ≡ goes (f (xs ++ g c ∷ [])) (reading_at fresh (place + len_utf8 c) p)) where
  pub grows : (xs cs : List ℕ) (place : ℕ) → all ok cs ≡ true →
      Moves (at_state (f xs) fresh place p) cs (f (xs ++ map g cs)) fresh p
  grows xs [] place h = record { place = place; is = rw (append-nil xs) refl }
  grows xs (c ∷ cs) place h =
      let both = and_parts _ _ h in
      let m = grows (xs ++ g c ∷ []) cs (place + len_utf8 c) both.1 in
      let read = ap (λ q. run q cs) (one xs c place both.0) ∙ m.is in
      rw (← append_assoc xs (g c ∷ []) (map g cs)) (record { place = m.place; is = read })

-- behind a character that is neither U+0000 nor a carriage return
pub stepped : (s t : TokenState) (fresh : Bool) (place : ℕ) (p : Page) (c : ℕ) → eqb c 0 ≡ false →
    eqb c 13 ≡ false → moved s c (reading_at fresh place p) ≡ goes t (reading_at fresh place p) →
    step (at_state s fresh place p) c ≡ goes t (reading_at fresh (place + len_utf8 c) p)
stepped s t fresh place p c zero return h =
    let moves = ap (λ q. goes q.state
    (record q.reading { place = place + len_utf8 c; after_return = false })) h in
    decide (eqb c 10) (λ e. rw (zero, e, return) moves) (λ e. rw (zero, e, return) moves)

-- a character that means nothing in a tag
pub record IsOfName (c : ℕ) : Type 0 where
  pub no_zero : eqb c 0 ≡ false
  pub no_return : eqb c 13 ≡ false
  pub no_space : is_space c ≡ false
  pub no_equals : eqb c 61 ≡ false
  pub no_solidus : eqb c 47 ≡ false
  pub no_greater : eqb c 62 ≡ false

pub of_attr : (c : ℕ) → is_attr_char c ≡ true → IsOfName c
of_attr c h = record {
  no_zero = other is_attr_char c 0 h refl;
  no_return = other is_attr_char c 13 h refl;
  no_space = rw (
    other is_attr_char c 9 h refl,
    other is_attr_char c 10 h refl,
    other is_attr_char c 12 h refl,
    other is_attr_char c 13 h refl,
    other is_attr_char c 32 h refl,
  ) refl;
  no_equals = other is_attr_char c 61 h refl;
  no_solidus = other is_attr_char c 47 h refl;
  no_greater = other is_attr_char c 62 h refl;
}

by_table : (is p : ℕ → Bool) (c : ℕ) → c < 128 → agree_below (λ d. is d && p d) is 128 ≡ true →
    is c ≡ true → p c ≡ true
by_table is p c small table h =
    (and_parts _ _ (agree_below_at (λ d. is d && p d) is 128 c table small ∙ h)).1

tag_small : (c : ℕ) → is_tag_char c ≡ true → c < 128
tag_small c h = grind (arith, nat_tests)

pub of_tag : (c : ℕ) → is_tag_char c ≡ true → IsOfName c
of_tag c h = of_attr c (by_table is_tag_char is_attr_char c (tag_small c h) refl h)

pub of_letter : (c : ℕ) → is_letter c ≡ true → IsOfName c
of_letter c h = of_attr c (by_table is_letter is_attr_char c (grind (arith, nat_tests)) refl h)

-- in small letters a name has characters of its kind

tag_lowered : (c : ℕ) → is_tag_char c ≡ true → is_tag_char (to_ascii_lowercase c) ≡ true
tag_lowered c h =
    by_table is_tag_char (λ d. is_tag_char (to_ascii_lowercase d)) c (tag_small c h) refl h

attr_lowered : (c : ℕ) → is_attr_char c ≡ true → is_attr_char (to_ascii_lowercase c) ≡ true
attr_lowered c h =
    elim (cases_lt c 128) [
      | inl low ↦ by_table is_attr_char (λ d. is_attr_char (to_ascii_lowercase d)) c low refl h
      | inr high ↦ ap is_attr_char ((lowercase_is c).2 (omega arith)) ∙ h
    ]

tags_lowered : (cs : List ℕ) → all is_tag_char cs ≡ true → all is_tag_char (lowered cs) ≡ true
tags_lowered [] h = refl
tags_lowered (c ∷ cs) h =
    let both = and_parts _ _ h in
    and_from _ _ (tag_lowered c both.0) (tags_lowered cs both.1)

pub name_lowered : (name : List ℕ) → IsOf is_tag_char name → is_name (lowered name) ≡ true
name_lowered [] h = absurd h
name_lowered (c ∷ cs) h = name_of_tag (lowered (c ∷ cs)) (tag_lowered c h.0, tags_lowered cs h.1)

none_bad : (cs : List ℕ) → all is_attr_char cs ≡ true →
    find (λ d. not (is_attr_char d)) (lowered cs) ≡ None
none_bad [] h = refl
none_bad (c ∷ cs) h =
    let both = and_parts _ _ h in
    rw (attr_lowered c both.0) (none_bad cs both.1)

pub attr_faultless : (name : List ℕ) → IsOf is_attr_char name → attr_fault (lowered name) ≡ None
attr_faultless [] h = absurd h
attr_faultless (c ∷ cs) h =
    let good : find (λ d. not (is_attr_char d)) (lowered (c ∷ cs)) ≡ None =
    rw (attr_lowered c h.0) (none_bad cs h.1) in
    rw good refl

-- a tag of that name, without attributes
abbrev pub tag_named : (is_end : Bool) (name : List ℕ) → TagDraft
tag_named is_end name = record { is_end = is_end; name = name; attrs = [] }

-- a tag's name, from the state in which its first letter begins it
pub name_moves : (is_end : Bool) (s : TokenState) → ((c : ℕ) (r : Reading) → is_letter c ≡ true →
    moved s c r ≡ goes (TagName (tag_named is_end (to_ascii_lowercase c ∷ []))) r) →
    (name : List ℕ) → IsOf is_tag_char name → begins_with_letter name ≡ true → (fresh : Bool)
    (place : ℕ) (p : Page) →
    Moves (at_state s fresh place p) name (TagName (tag_named is_end (lowered name))) fresh p
name_moves is_end s begins [] named letter fresh place p = absurd named
name_moves is_end s begins (c ∷ cs) named letter fresh place p =
    let first = TagName (tag_named is_end (to_ascii_lowercase c ∷ [])) in
    let k = of_letter c letter in
    moves_on (c ∷ []) cs
    (one_moves (at_state s fresh place p) first fresh (place + len_utf8 c) p c
    (stepped s first fresh place p c k.no_zero k.no_return
    (begins c (reading_at fresh place p) letter)))
    (λ here. grows (λ xs. TagName (tag_named is_end xs)) to_ascii_lowercase is_tag_char fresh p
    name_step (to_ascii_lowercase c ∷ []) cs here named.1)
  where
    name_step : (xs : List ℕ) (d place : ℕ) → is_tag_char d ≡ true →
        step (at_state (TagName (tag_named is_end xs)) fresh place p) d
        ≡ goes (TagName (tag_named is_end (xs ++ to_ascii_lowercase d ∷ [])))
        (reading_at fresh (place + len_utf8 d) p)
    name_step xs d place h =
        let k = of_tag d h in
        stepped (TagName (tag_named is_end xs)) _ fresh place p d k.no_zero k.no_return
        (rw (k.no_space, k.no_solidus, k.no_greater) refl)
