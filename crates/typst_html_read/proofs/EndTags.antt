-- An end tag that is read at once, as the reader of the definition reads it.
use Rattle.std.proofs.Common.{◌≡◌, ℕ, ◌<◌, Bool, true, false, not, ◌&&◌, eqb, bytes_eq, codes, get_or, List, [], ◌∷◌, ◌++◌, length, refl, sym, ap, ◌∙◌, arith, append_assoc, append-nil, eq-eqb}
use Rattle.std.proofs.lemmas.{Bool.{and_from, and_parts}, List.{length-append}, Bool.Decides.{nat_tests}, List.Folds.{list_all-append}}
use Rattle.std.{proofs.lemmas.Slice.Eq.{bytes_eq-Decides}, specs.List.{list_all}, specs.Prelude.{Option, None, Some, MatchOption, IfSome}}
use lib.Utf8.{encodes}
use Rattle.html_names_core.specs.Characters.{is_tag_char}
use Rattle.html_dom_tree.specs.{PlainTree.{Plains}, Tree.{TextPair}}
use Rattle.typst_html_encode.specs.Reader.{Open, ReaderState, Content, Less, EndName, add_text, with_text, complete}
use Rattle.typst_html_read.proofs.{Refusals.{next_is}, Stretches.{Grows, grown, names_ascii}}
use Rattle.typst_html_read.specs.{EndTags.{EndsTag, Leaves}, LimitedReading.{ends_at, is_stop, next_state}}
use Rattle.typst_html_read.specs.Stretches.{all_grow, next_states, runs_on, ReadsOn}

-- one part is read after the other
runs_then : (a b : List ℕ) (s : ReaderState) → runs_on s a ≡ true →
    runs_on (next_states s a) b ≡ true → runs_on s (a ++ b) ≡ true
runs_then [] b s h k = k
runs_then (c ∷ a) b s h k =
    let both = and_parts _ (runs_on (next_state s c) a) h in
    and_from _ _ both.0 (runs_then a b (next_state s c) both.1 k)

states_then : (a b : List ℕ) (s : ReaderState) →
    next_states s (a ++ b) ≡ next_states (next_states s a) b
states_then [] b s = refl
states_then (c ∷ a) b s = states_then a b (next_state s c)

module _ (o : Open) (os : List Open) (named : list_all is_tag_char o.name ≡ true) where
  -- the next character of the name
  abbrev is_next : List ℕ → ℕ → Bool
  is_next read c = ends_at (o ∷ os) (length (encodes read)) c && is_tag_char c

  in_end_name : Grows is_next (λ t. EndName t (o ∷ os))
  in_end_name = record {
    adds = λ t c h.
        let both = and_parts (ends_at (o ∷ os) (length (encodes t)) c) (is_tag_char c) h in
        rw (both.0, both.1) refl;
    flat = λ t c. refl;
    stays = λ t. refl;
  }

  name_grows : (front read : List ℕ) → o.name ≡ read ++ front →
      list_all is_tag_char read ≡ true → list_all is_tag_char front ≡ true →
      all_grow is_next read front ≡ true
  name_grows [] read e h k = refl
  name_grows (c ∷ front) read e h k =
      let both = and_parts (is_tag_char c) (list_all is_tag_char front) k in
      let there = next_is o.name read (c ∷ front) (names_ascii read h) e in
      and_from _ _ (and_from _ _ (eq-eqb c _ (sym there)) both.0)
      (name_grows front (read ++ c ∷ []) (e ∙ sym (append_assoc read (c ∷ []) front))
      (list_all-append is_tag_char read (c ∷ []) ∙ and_from _ _ h (and_from _ _ both.0 refl)) both.1)

  complete_stays : (name : List ℕ) (attrs : List TextPair) (kids : Plains) (stack : List Open) →
      is_stop (complete name attrs kids stack) ≡ false
  complete_stays name attrs kids [] = refl
  complete_stays name attrs kids (p ∷ ps) = refl

  name_ended : next_state (EndName o.name (o ∷ os)) 62 ≡ complete o.name o.attrs o.children os
  name_ended =
      let there = next_is o.name o.name [] (names_ascii o.name named) (sym (append-nil o.name)) in
      let here : eqb 62 (get_or o.name (length (encodes o.name)) 62) ≡ true =
      eq-eqb 62 _ (sym there) in
      let same : bytes_eq o.name o.name ≡ true = (bytes_eq-Decides o.name o.name).1 refl in
      rw (here, same) refl

  -- behind `</`
  pub name_read : (runs_on (EndName [] (o ∷ os)) (o.name ++ codes ">") ≡ true)
      × (next_states (EndName [] (o ∷ os)) (o.name ++ codes ">")
      ≡ complete o.name o.attrs o.children os)
  name_read =
      let both = grown is_next (λ t. EndName t (o ∷ os)) in_end_name o.name []
      (name_grows o.name [] refl refl named) in
      let still : is_stop (next_state (EndName o.name (o ∷ os)) 62) ≡ false =
      ap is_stop name_ended ∙ complete_stays o.name o.attrs o.children os in
      let last : runs_on (EndName o.name (o ∷ os)) (codes ">") ≡ true = rw still refl in (
        runs_then o.name (codes ">") (EndName [] (o ∷ os)) both.0
            (ap (λ s. runs_on s (codes ">")) (sym both.1) ∙ last),
        states_then o.name (codes ">") (EndName [] (o ∷ os))
            ∙ (ap (λ s. next_states s (codes ">")) (sym both.1) ∙ name_ended),
      )

slash_read : (p : Open) (ps : List Open) →
    next_state (Less (p ∷ ps)) 47 ≡ EndName [] (p ∷ ps)
slash_read p ps = grind (arith, nat_tests)

-- the end tag of the innermost element, behind a text
pub end_tag_read : (words : List ℕ) (o : Open) (os : List Open) (text rest : List ℕ)
    (new : ReaderState) → list_all is_tag_char o.name ≡ true →
    text ≡ codes "</" ++ (o.name ++ (codes ">" ++ rest)) →
    new ≡ complete o.name o.attrs (with_text words o.children) os →
    ReadsOn (Content words (o ∷ os)) new text rest
end_tag_read words o os text rest new named e made =
    let top : Open = record o { children = with_text words o.children } in
    let name = name_read top os named in
    let behind = o.name ++ codes ">" in
    let slash : next_state (Less (top ∷ os)) 47 ≡ EndName [] (top ∷ os) = slash_read top os in
    record {
      front = codes "</" ++ (o.name ++ codes ">");
      parts = e ∙ ap (λ l. codes "</" ++ l) (sym (append_assoc o.name (codes ">") rest));
      runs = ap (λ s. not (is_stop s) && runs_on s behind) slash ∙ name.0;
      state = made ∙ sym (ap (λ s. next_states s behind) slash ∙ name.1);
    }

pub end_tag_fewer : (stack : List Open) (text rest : List ℕ) → EndsTag stack text rest →
    length rest < length text
end_tag_fewer stack text rest h = omega (
  arith,
  ap length h.parts,
  length-append h.top.name (codes ">" ++ rest),
)

-- the innermost element was left
pub left : (text : List ℕ) (old held rest : List Open) (o : Open) (new : ReaderState) →
    held ≡ add_text text old → held ≡ o ∷ rest → new ≡ complete o.name o.attrs o.children rest →
    Leaves text old new
left text [] held rest o new e k m = tt
left text (p ∷ ps) held rest o new e k m = cc

pub left_none : (text : List ℕ) (old held : List Open) (new : ReaderState) →
    held ≡ add_text text old → held ≡ [] → Leaves text old new
left_none text [] held new e k = tt
left_none text (p ∷ ps) held new e k = absurd cc

pub no_text : (stack : List Open) → stack ≡ add_text [] stack
no_text [] = refl
no_text (o ∷ os) = refl

pub some_weaker : {A : Type 0} (No : Type 0) (P Q : A → Type 0) (r : Option A) →
    MatchOption r No P → ((x : A) → P x → Q x) → IfSome r Q
some_weaker No P Q None h f = tt
some_weaker No P Q (Some x) h f = f x h
