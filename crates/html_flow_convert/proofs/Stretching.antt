-- Stretches of a text where white space collapses, as they grow.
use Rattle.std.proofs.Common.{◌≡◌, ℕ, ◌-◌, ◌<◌, Bool, true, false, ◌&&◌, ◌||◌, ◌==◌, List, [], ◌∷◌, ◌++◌, IsTrue, Option, None, Some, chars, length, map, take, refl, sym, ap, ◌∙◌, arith, append-nil, append_assoc}
use Rattle.std.proofs.lemmas.{Bool.{agree_below_at, false≢true, true≢false, and_parts, and_from}, List.{map-append, nil_from_length}}
use Rattle.std.proofs.lemmas.{Str.{IsUtf8-nil, chars-nil, chars_past_char, encodes-chars}, Bool.Decides.{nat_tests}}
use Rattle.std.specs.Str.{IsUtf8}
use Rattle.html_names_core.{proofs.Basics.{front_taken}, specs.Characters.{is_ignorable}}
use Rattle.html_dom_tree.specs.Tree.{NodeView}
use Rattle.html_flow_convert.specs.Pieces.{PieceView, stretch, alone, line_break, first_char, is_normal, is_normal_there, is_in_stretch, in_stretch, is_carriage_return, outside_stretch, pieces_after, pieces, piece_node, text_nodes}
use Rattle.html_flow_convert.specs.TextStretches.{is_above_space, is_stretch, with_stretch}
use lib.Utf8.{encode, encodes}

pub ascii_shown : (c : ℕ) → c < 128 → is_ignorable c ≡ false
unfolding is_ignorable
ascii_shown c small = agree_below_at is_ignorable (λ _. false) 128 c refl small

stretch_alone : (c : ℕ) (cs : List ℕ) → with_stretch (c ∷ cs) [] ≡ stretch (c ∷ cs) ∷ []
stretch_alone c [] = refl
stretch_alone c (d ∷ ds) = ap (in_stretch c) (stretch_alone d ds)

pub no_length : (text : List ℕ) → (length text == 0) ≡ true → length text ≡ 0
no_length text h = grind (arith, nat_tests)

no_bytes : (text : List ℕ) → IsUtf8 text → chars text ≡ [] → (length text == 0) ≡ true
no_bytes text u e =
    ap (λ bs. length bs == 0) (sym (encodes-chars text u) ∙ ap encodes e) ∙ grind (arith, nat_tests)

stretch_by : (text cs : List ℕ) → chars text ≡ cs → IsUtf8 text → (length text == 0) ≡ false →
    with_stretch cs [] ≡ stretch cs ∷ []
stretch_by text [] e u h = absurd (true≢false (sym (no_bytes text u e) ∙ h))
stretch_by text (c ∷ cs) e u h = stretch_alone c cs

pub stretch_of_text : (text : List ℕ) → IsUtf8 text → (length text == 0) ≡ false →
    with_stretch (chars text) [] ≡ stretch (chars text) ∷ []
stretch_of_text text u h = stretch_by text (chars text) refl u h

-- a text that is one stretch

-- each character of a text that stands after one stands in a stretch
abbrev are_in_stretch : (before : Option ℕ) → (text : List ℕ) → Bool
are_in_stretch before [] = true
are_in_stretch before (c ∷ cs) = is_in_stretch before c cs && are_in_stretch (Some c) cs

within_stretch : (before : Option ℕ) (cs : List ℕ) → are_in_stretch before cs ≡ true →
    pieces_after before cs ≡ with_stretch cs []
unfolding pieces_after
within_stretch before [] e = refl
within_stretch before (c ∷ cs) e =
    let parts = and_parts (is_in_stretch before c cs) (are_in_stretch (Some c) cs) e in
    rw parts.0 (ap (in_stretch c) (within_stretch (Some c) cs parts.1))

begins_normal : (cs : List ℕ) → is_stretch false cs ≡ true → is_normal_there (first_char cs) ≡ true
begins_normal [] e = absurd (false≢true e)
begins_normal (c ∷ cs) e = by (is_normal c) (c == 32) (is_stretch (is_normal c) cs) e
  where
    by : (normal blank rest : Bool) → ((normal || (blank && false)) && rest) ≡ true → normal ≡ true
    by true blank rest e = refl
    by false true rest e = absurd (false≢true e)
    by false false rest e = absurd (false≢true e)

one_within : (normal blank after there : Bool) → (normal || (blank && after)) ≡ true →
    (normal ≡ false → there ≡ true) → (normal || (blank && after && there)) ≡ true
one_within true blank after there e f = refl
one_within false blank after there e f =
    let parts = and_parts blank after e in rw (parts.0, parts.1, f refl) refl

all_within : (before : Option ℕ) (cs : List ℕ) → is_stretch (is_normal_there before) cs ≡ true →
    are_in_stretch before cs ≡ true
all_within before [] e = refl
all_within before (c ∷ cs) e =
    let after = is_normal_there before in
    let parts = and_parts (is_normal c || ((c == 32) && after)) (is_stretch (is_normal c) cs) e in
    and_from _ _ (one_within (is_normal c) (c == 32) after (is_normal_there (first_char cs))
    parts.0 (λ none. begins_normal cs (ap (λ n. is_stretch n cs) (sym none) ∙ parts.1)))
    (all_within (Some c) cs parts.1)

pub one_stretch : (cs : List ℕ) → is_stretch false cs ≡ true → pieces cs ≡ stretch cs ∷ []
one_stretch [] e = absurd (false≢true e)
one_stretch (c ∷ cs) e = within_stretch None (c ∷ cs) (all_within None (c ∷ cs) e) ∙ stretch_alone c cs

-- a character more, and the end
pub stretch_goes_on : (ends : Bool) (rest later : List ℕ) (c : ℕ) {normal all : Bool} →
    IsUtf8 rest → rest ≡ encode c ++ later → normal ≡ is_normal c →
    (normal || ((c == 32) && ends)) ≡ true →
    is_stretch ends (chars rest) ≡ all → is_stretch normal (chars later) ≡ all
stretch_goes_on ends rest later c u parts is on held =
    let opened = rw (chars_past_char rest later c u parts) at held in
    rw is (rw (rw is at on) at opened)

pub stretch_ends : (ends : Bool) (rest text : List ℕ) → length rest ≡ 0 →
    is_stretch ends (chars rest) ≡ is_stretch false (chars text) → IsTrue ends →
    pieces (chars text) ≡ stretch (chars text) ∷ []
stretch_ends ends rest text none held h =
    let empty = nil_from_length rest none in
    one_stretch (chars text) (sym (rw (empty, chars-nil) at held) ∙ h)

-- a character of ASCII above the space is normal
pub shown_small : (b : ℕ) → is_above_space b ≡ true → b < 128
unfolding is_above_space
shown_small b h = grind (arith, nat_tests)

pub shown_normal : (b : ℕ) → is_above_space b ≡ true → is_normal b ≡ true
unfolding is_above_space is_ignorable
shown_normal b h =
    let both = agree_below_at (λ d. is_above_space d && is_normal d) is_above_space 128 b refl (shown_small b h) in
    (and_parts (is_above_space b) (is_normal b) (both ∙ h)).1

before_alone : (cs : List ℕ) (d : ℕ) (ps : List PieceView) →
    with_stretch cs (alone d ∷ ps) ≡ with_stretch cs [] ++ alone d ∷ ps
before_alone [] d ps = refl
before_alone (c ∷ []) d ps = refl
before_alone (c ∷ e ∷ cs) d ps = rw (before_alone (e ∷ cs) d ps, stretch_alone e cs) refl

before_break : (cs : List ℕ) (ps : List PieceView) →
    with_stretch cs (line_break ∷ ps) ≡ with_stretch cs [] ++ line_break ∷ ps
before_break [] ps = refl
before_break (c ∷ []) ps = refl
before_break (c ∷ e ∷ cs) ps = rw (before_break (e ∷ cs) ps, stretch_alone e cs) refl

-- no stretch ends in a carriage return
outside_by : (is_return is_feed after : Bool) (front : List ℕ) (before : Option ℕ) (c : ℕ)
    (ps : List PieceView) → (c == 13) ≡ is_return → (c == 10) ≡ is_feed →
    is_carriage_return before ≡ after → (is_carriage_return before ≡ true → front ≡ []) →
    with_stretch front (outside_stretch before c ps)
    ≡ with_stretch front [] ++ (outside_stretch before c [] ++ ps)
outside_by true feed after front before c ps e f g none = rw e (before_break front ps)
outside_by false true true front before c ps e f g none = rw (e, f, g, none g) refl
outside_by false true false front before c ps e f g none = rw (e, f, g) (before_break front ps)
outside_by false false after front before c ps e f g none = rw (e, f) (before_alone front c ps)

pub return_apart : (before : Option ℕ) (c : ℕ) (after : List ℕ) →
    is_in_stretch before c after ≡ true → (c == 13) ≡ true → ⊥
return_apart before c after h e =
    let is : c ≡ 13 = grind (arith, nat_tests) in
    false≢true (rw is at h)

-- the nodes that are made, and a text of which a stretch stands before the rest
pub record Stretching (span : ℕ) (before : Option ℕ) (text rest : List ℕ)
    (made all : List NodeView) : Type 0 where
  pub front : List ℕ
  pub split : text ≡ front ++ rest
  pub front_utf8 : IsUtf8 front
  pub rest_utf8 : IsUtf8 rest
  pub after_return : is_carriage_return before ≡ true → front ≡ []
  pub agrees :
      made ++ map (piece_node span) (with_stretch (chars front) (pieces_after before (chars rest)))
      ≡ all

pub nothing_passed : (span : ℕ) (text : List ℕ) (made : List NodeView) → IsUtf8 text →
    Stretching span None text text made (made ++ text_nodes span (chars text))
nothing_passed span text made u = record {
  front = [];
  split = refl;
  front_utf8 = IsUtf8-nil;
  rest_utf8 = u;
  after_return = λ h. refl;
  agrees = rw chars-nil refl;
}

pub char_outside : {span : ℕ} {before : Option ℕ} {text rest : List ℕ}
    {made new all : List NodeView} (after : List ℕ) (c : ℕ) →
    Stretching span before text rest made all → rest ≡ encode c ++ after → IsUtf8 after →
    is_in_stretch before c (chars after) ≡ false →
    new ≡ (made
    ++ map (piece_node span) (with_stretch (chars (take (length text - length rest) text)) []))
    ++ map (piece_node span) (outside_stretch before c []) →
    Stretching span (Some c) after after new all
unfolding pieces_after
char_outside {span} {before} {text} {rest} after c held parts u apart pushed =
    let agrees = rw (
      chars_past_char rest after c held.rest_utf8 parts,
      apart,
      outside_by (c == 13) (c == 10) (is_carriage_return before) (chars held.front) before c
          (pieces_after (Some c) (chars after)) refl refl refl
          (λ h. ap chars (held.after_return h) ∙ chars-nil),
      map-append,
      map-append,
    ) at held.agrees in
    record {
      front = [];
      split = refl;
      front_utf8 = IsUtf8-nil;
      rest_utf8 = u;
      after_return = λ h. refl;
      agrees = rw (pushed, front_taken text held.front rest held.split, chars-nil)
          (simp append_assoc agrees);
    }

pub text_ended : {span : ℕ} {before : Option ℕ} {text rest : List ℕ} {made all : List NodeView} →
    Stretching span before text rest made all → length rest ≡ 0 →
    made ++ map (piece_node span) (with_stretch (chars text) []) ≡ all
unfolding pieces_after
text_ended {rest = rest} held none =
    let empty = nil_from_length rest none in
    rw (held.split, empty, append-nil) (rw (empty, chars-nil) at held.agrees)
