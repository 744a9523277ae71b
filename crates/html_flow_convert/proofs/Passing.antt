-- Characters that stand in a stretch, as a walk over a text passes them.
use Rattle.std.proofs.Common.{◌≡◌, ℕ, ◌+◌, ◌-◌, ◌<◌, Bool, true, false, ◌&&◌, ◌||◌, ◌==◌, List, [], ◌∷◌, ◌++◌, Option, None, Some, chars, length, map, take, drop, get_or, refl, sym, ap, subst, ◌∙◌, arith, append_assoc}
use Rattle.std.proofs.{Math.Bool.{and-true, and-false}, lemmas.Bool.{false≢true, and_parts, and_from}, lemmas.List.{drop_more}}
use Rattle.std.proofs.lemmas.Str.{IsCharBoundary-after_ascii, IsUtf8-nil, IsUtf8-append, IsUtf8-drop, IsUtf8-encode, encode_ascii, chars-append, chars-nil, chars_past_char, encodes-chars}
use Rattle.std.{proofs.lemmas.Bool.Decides.{nat_tests}, specs.Str.{IsUtf8, IsCharBoundary}}
use Rattle.html_names_core.proofs.Basics.{chars-encode, first_scalar, front_length}
use Rattle.html_dom_tree.specs.Tree.{NodeView, text_node}
use Rattle.html_flow_convert.proofs.Stretching.{Stretching, nothing_passed, char_outside, return_apart, shown_small, shown_normal}
use Rattle.html_flow_convert.specs.Pieces.{PieceView, first_char, is_normal, is_normal_there, is_in_stretch, in_stretch, is_carriage_return, outside_stretch, pieces_after, piece_node, text_nodes}
use Rattle.html_flow_convert.specs.TextStretches.{char_before, is_above_space, is_within, are_within, ends_normal, is_stretch, with_stretch, Passes}
use lib.Utf8.{encode, encodes}

-- a character more

within_more : (ends : Bool) (cs : List ℕ) (c : ℕ) (ds : List ℕ) →
    are_within ends cs (c ∷ ds) ≡ true → is_within (ends_normal ends cs) c ds ≡ true →
    are_within ends (cs ++ c ∷ []) ds ≡ true
within_more ends [] c ds h on = and_from (is_within ends c ds) true on refl
within_more ends (d ∷ cs) c ds h on =
    let parts = and_parts (is_within ends d (cs ++ c ∷ ds)) (are_within (is_normal d) cs (c ∷ ds)) h in
    and_from _ _ (ap (is_within ends d) (append_assoc cs (c ∷ []) ds) ∙ parts.0)
    (within_more (is_normal d) cs c ds parts.1 on)

ends_more : (ends : Bool) (cs : List ℕ) (c : ℕ) → ends_normal ends (cs ++ c ∷ []) ≡ is_normal c
ends_more ends [] c = refl
ends_more ends (d ∷ cs) c = ends_more (is_normal d) cs c

pub passes_none : (ends : Bool) (text : List ℕ) → Passes ends text ends text
passes_none ends text = record {
  front = [];
  split = refl;
  front_utf8 = IsUtf8-nil;
  within = rw chars-nil refl;
  ends_so = rw chars-nil refl;
}

pub passes_char : {before ends : Bool} {text rest : List ℕ} (now : Bool) (after : List ℕ) (c : ℕ) →
    Passes before text ends rest → IsUtf8 rest → rest ≡ encode c ++ after →
    is_within ends c (chars after) ≡ true → now ≡ is_normal c → Passes before text now after
passes_char {before} {ends} {text} {rest} now after c p u parts on is =
    let valid = first_scalar rest after c u parts in
    let cs = chars p.front in
    let grown : chars (p.front ++ encode c) ≡ cs ++ c ∷ [] =
    chars-append p.front (encode c) p.front_utf8 ∙ ap (λ l. cs ++ l) (chars-encode c valid) in
    let opened : chars rest ≡ c ∷ chars after = chars_past_char rest after c u parts in
    record {
      front = p.front ++ encode c;
      split = rw (append_assoc, ← parts) p.split;
      front_utf8 = IsUtf8-append p.front (encode c) p.front_utf8 (IsUtf8-encode c valid);
      within = rw grown (within_more before cs c (chars after) (rw opened at p.within)
          (rw p.ends_so on));
      ends_so = rw (grown, ends_more before cs c) (sym is);
    }

-- a byte more
byte_there : (text : List ℕ) (k : ℕ) → k < length text → get_or text k 0 < 128 →
    drop k text ≡ encode (get_or text k 0) ++ drop (k + 1) text
byte_there text k within small =
    rw (encode_ascii (get_or text k 0) small) (drop_more text k 0 within)

byte_passed : {before ends : Bool} (now : Bool) (text : List ℕ) (k : ℕ) → IsUtf8 text →
    Passes before text ends (drop k text) → IsCharBoundary text k → k < length text →
    get_or text k 0 < 128 → is_within ends (get_or text k 0) (chars (drop (k + 1) text)) ≡ true →
    now ≡ is_normal (get_or text k 0) →
    IsCharBoundary text (k + 1) × Passes before text now (drop (k + 1) text)
byte_passed now text k u p cut within small on is = (
  IsCharBoundary-after_ascii text k u within small,
  passes_char now (drop (k + 1) text) (get_or text k 0) p (IsUtf8-drop text k u cut)
      (byte_there text k within small) on is,
)

pub shown_passed : {before ends : Bool} (text : List ℕ) (k : ℕ) → IsUtf8 text →
    Passes before text ends (drop k text) → IsCharBoundary text k → k < length text →
    is_above_space (get_or text k 0) ≡ true →
    IsCharBoundary text (k + 1) × Passes before text true (drop (k + 1) text)
shown_passed text k u p cut within shown =
    let b = get_or text k 0 in
    byte_passed true text k u p cut within (shown_small b shown) (rw (shown_normal b shown) refl)
    (sym (shown_normal b shown))

pub space_passed : {before : Bool} (text : List ℕ) (k : ℕ) → IsUtf8 text →
    Passes before text true (drop k text) → IsCharBoundary text k → get_or text k 0 ≡ 32 →
    k + 1 < length text → is_above_space (get_or text (k + 1) 0) ≡ true →
    IsCharBoundary text (k + 2) × Passes before text true (drop (k + 2) text)
space_passed {before} text k u p cut space within shown =
    let b = get_or text (k + 1) 0 in
    let small : get_or text k 0 < 128 = omega (arith, space) in
    let here : k < length text = omega (arith, within) in
    let opened : chars (drop (k + 1) text) ≡ b ∷ chars (drop (k + 1 + 1) text) =
    chars_past_char (drop (k + 1) text) (drop (k + 1 + 1) text) b
    (IsUtf8-drop text (k + 1) u (IsCharBoundary-after_ascii text k u here small))
    (byte_there text (k + 1) within (shown_small b shown)) in
    let one = byte_passed (is_normal (get_or text k 0)) text k u p cut here small
    (rw (space, opened) (shown_normal b shown)) refl in
    let two = shown_passed text (k + 1) u one.1 one.0 within shown in
    let same : k + 1 + 1 ≡ k + 2 = omega arith in
    subst (λ j. IsCharBoundary text j × Passes before text true (drop j text)) same two

-- a text is one stretch if what is left of it goes on with one

on_by : (normal blank after there : Bool) → (normal || (blank && after && there)) ≡ true →
    (normal || (blank && after)) ≡ true
on_by true blank after there h = refl
on_by false true true there h = refl
on_by false true false there h = absurd (false≢true h)
on_by false false after there h = absurd (false≢true h)

within_stretches : (ends : Bool) (cs ds : List ℕ) → are_within ends cs ds ≡ true →
    is_stretch ends (cs ++ ds) ≡ is_stretch (ends_normal ends cs) ds
within_stretches ends [] ds h = refl
within_stretches ends (c ∷ cs) ds h =
    let parts = and_parts (is_within ends c (cs ++ ds)) (are_within (is_normal c) cs ds) h in
    rw (on_by (is_normal c) (c == 32) ends (is_normal_there (first_char (cs ++ ds))) parts.0)
    (within_stretches (is_normal c) cs ds parts.1)

pub stretch_left : {ends now : Bool} {text rest : List ℕ} → Passes ends text now rest →
    is_stretch now (chars rest) ≡ is_stretch ends (chars text)
stretch_left {ends} {now} {text} {rest} p =
    let opened : chars text ≡ chars p.front ++ chars rest =
    ap chars p.split ∙ chars-append p.front rest p.front_utf8 in
    rw (opened, within_stretches ends (chars p.front) (chars rest) p.within, p.ends_so) refl

-- the pieces of a text, and of what is left of it

abbrev last_before : (before : Option ℕ) → List ℕ → Option ℕ
last_before before [] = before
last_before before (c ∷ cs) = last_before (Some c) cs

within_pieces : (before : Option ℕ) (cs ds : List ℕ) →
    are_within (is_normal_there before) cs ds ≡ true →
    pieces_after before (cs ++ ds) ≡ with_stretch cs (pieces_after (last_before before cs) ds)
unfolding pieces_after
within_pieces before [] ds h = refl
within_pieces before (c ∷ cs) ds h =
    let parts = and_parts (is_in_stretch before c (cs ++ ds)) (are_within (is_normal c) cs ds) h in
    rw parts.0 (ap (in_stretch c) (within_pieces (Some c) cs ds parts.1))

last_normal : (before : Option ℕ) (cs : List ℕ) →
    is_normal_there (last_before before cs) ≡ ends_normal (is_normal_there before) cs
last_normal before [] = refl
last_normal before (c ∷ cs) = last_normal (Some c) cs

last_return : (before : Option ℕ) (cs ds : List ℕ) →
    are_within (is_normal_there before) cs ds ≡ true →
    is_carriage_return (last_before before cs) ≡ true → cs ≡ []
last_return before [] ds h r = refl
last_return before (c ∷ cs) ds h r =
    let parts = and_parts (is_in_stretch before c (cs ++ ds)) (are_within (is_normal c) cs ds) h in
    let none = last_return (Some c) cs ds parts.1 r in
    absurd (return_apart before c (cs ++ ds) parts.0 (rw none at r))

stretch_append : (cs ds : List ℕ) (ps : List PieceView) →
    with_stretch (cs ++ ds) ps ≡ with_stretch cs (with_stretch ds ps)
stretch_append [] ds ps = refl
stretch_append (c ∷ cs) ds ps = ap (in_stretch c) (stretch_append cs ds ps)

no_front : (xs : List ℕ) → IsUtf8 xs → chars xs ≡ [] → xs ≡ []
no_front xs u e = sym (encodes-chars xs u) ∙ ap encodes e

both_none : (xs ys : List ℕ) → xs ++ ys ≡ [] → (xs ≡ []) × (ys ≡ [])
both_none [] ys e = (refl, e)
both_none (x ∷ xs) ys e = absurd (omega (arith, ap length e))

-- the nodes that are made, and a text of which a stretch stands before the rest; whether a carriage
-- return stands right before the text, and whether a normal character right before the rest
pub record Pending (span : ℕ) (returned ends : Bool) (text rest : List ℕ)
    (made all : List NodeView) : Type 0 where
  pub before : Option ℕ
  pub ends_so : is_normal_there before ≡ ends
  pub held : Stretching span before text rest made all
  pub returned_so : held.front ≡ [] → is_carriage_return before ≡ returned

pub pending_begins : (span : ℕ) (text : List ℕ) (made : List NodeView) → IsUtf8 text →
    Pending span false false text text made (made ++ text_nodes span (chars text))
pending_begins span text made u = record {
  before = None;
  ends_so = refl;
  held = nothing_passed span text made u;
  returned_so = λ h. refl;
}

pub pending_passes : {span : ℕ} {returned ends now : Bool} {text rest later : List ℕ}
    {made all : List NodeView} → Pending span returned ends text rest made all →
    Passes ends rest now later → IsUtf8 later → Pending span returned now text later made all
pending_passes {span} {returned} {ends} {now} {text} {rest} {later} p w u =
    let h = p.held in
    let before = p.before in
    let cs = chars w.front in
    let ds = chars later in
    let within : are_within (is_normal_there before) cs ds ≡ true = rw p.ends_so w.within in
    let opened : chars rest ≡ cs ++ ds = ap chars w.split ∙ chars-append w.front later w.front_utf8 in
    record {
      before = last_before before cs;
      ends_so = rw (last_normal before cs, p.ends_so) w.ends_so;
      held = record {
        front = h.front ++ w.front;
        split = rw (append_assoc, ← w.split) h.split;
        front_utf8 = IsUtf8-append h.front w.front h.front_utf8 w.front_utf8;
        rest_utf8 = u;
        after_return = λ r.
            let none = last_return before cs ds within r in
            rw (h.after_return (rw none at r), no_front w.front w.front_utf8 none) refl;
        agrees = rw (chars-append h.front w.front h.front_utf8, stretch_append (chars h.front) cs)
            (rw (← within_pieces before cs ds within, ← opened) h.agrees);
      };
      returned_so = λ e.
          let none = both_none h.front w.front e in
          rw (none.1, chars-nil) (p.returned_so none.0);
    }

outside_same : (a b : Option ℕ) (c : ℕ) → is_carriage_return a ≡ is_carriage_return b →
    outside_stretch a c [] ≡ outside_stretch b c []
outside_same a b c e = rw e refl

return_before : (is_return : Bool) → is_carriage_return (char_before is_return) ≡ is_return
return_before true = refl
return_before false = refl

some_length : (x : ℕ) (xs : List ℕ) → (length (x ∷ xs) == 0) ≡ false
some_length x xs = grind (arith, nat_tests)

return_by : (is_return returned : Bool) (front : List ℕ) → (is_return ≡ true → front ≡ []) →
    (front ≡ [] → is_return ≡ returned) → is_return ≡ (returned && (length front == 0))
return_by is_return returned [] f g = g refl ∙ sym (and-true returned)
return_by true returned (x ∷ xs) f g = absurd (omega (arith, ap length (f refl)))
return_by false returned (x ∷ xs) f g = rw (some_length x xs) (sym (and-false returned))

pub pending_outside : {span : ℕ} {returned ends right_after : Bool} {text rest : List ℕ}
    {made new all : List NodeView} (after : List ℕ) (c : ℕ) →
    Pending span returned ends text rest made all → rest ≡ encode c ++ after → IsUtf8 after →
    is_within ends c (chars after) ≡ false →
    right_after ≡ (returned && (length text - length rest == 0)) →
    new ≡ (made
    ++ map (piece_node span) (with_stretch (chars (take (length text - length rest) text)) []))
    ++ map (piece_node span) (outside_stretch (char_before right_after) c []) →
    Pending span (c == 13) (is_normal c) after after new all
pending_outside {span} {returned} {ends} {right_after} {text} {rest} after c p parts u apart is
    pushed =
    let h = p.held in
    let right : is_carriage_return p.before ≡ right_after =
    return_by (is_carriage_return p.before) returned h.front h.after_return p.returned_so
    ∙ rw (front_length text h.front rest h.split) (sym is) in
    record {
      before = Some c;
      ends_so = refl;
      held = char_outside after c h parts u (rw p.ends_so apart)
          (rw (outside_same p.before (char_before right_after) c
          (right ∙ sym (return_before right_after))) pushed);
      returned_so = λ e. refl;
    }

-- a text of one character that is no line break
pub alone_seen : (span c d : ℕ) (is_return : Bool) (text : List ℕ) → c ≡ d → chars text ≡ d ∷ [] →
    (d == 13) ≡ false → (d == 10) ≡ false →
    text_node (chars text) span ∷ []
    ≡ map (piece_node span) (outside_stretch (char_before is_return) c [])
alone_seen span c d is_return text is e no_return no_feed = rw (is, e, no_return, no_feed) refl
