use Rattle.std.proofs.Common.{◌≡◌, ◌-◌, ◌++◌, [], chars, length, map, take, refl, sym, ap, subst, ◌∙◌, append_assoc}
use Rattle.std.proofs.lemmas.{Result.{on_err_weaker}, Str.{IsCharBoundary-at_seam}}
use Rattle.std.specs.{Prelude.{OnOk}, Str.{IsCharBoundary}}
use Rattle.html_names_core.proofs.{Basics.{front_length}, Held.{on_err}}
use Rattle.html_flow_convert.proofs.Beginnings.{Grows, grows_by_none, grows_more, begins}
use Rattle.html_flow_convert.proofs.Passing.{Pending, passes_none, passes_char, pending_begins, pending_passes, pending_outside}
use Rattle.html_flow_convert.proofs.Stretching.{text_ended}
use Rattle.html_flow_convert.specs.{Beginnings.{AddsBeginning}, Pieces.{outside_stretch, piece_node, text_nodes}}
use Rattle.html_flow_convert.specs.TextStretches.{char_before, with_stretch}
use Rattle.html_dom_tree.specs.Views.{node_view}
use Rattle.html_flow_convert.proofs.pieces.push_pieces.Goals as goal
use native.Mathlib.Numerals.{unary_clauses}
use denote.Text.{Utf8}
use denote.Shadow.{shadow}
use lib.Utf8.{encode}
use Rattle.html_flow_convert.proofs.pieces.push_pieces.Goals.{then-not-is_within+in_ok-push_stretch+in_ok-push_outside, else-not-is_within}

pub loop-c-init : goal.loop-c-init
loop-c-init c =
    let made = map node_view c.args.nodes.now.items in
    record {
      pending_is_text = c.utf8.text;
      rest_is_text = c.past_words-rest.utf8;
      at = c.chars-left.ensures.rest;
      held = pending_passes (pending_begins c.args.span.0 c.args.text.now made c.utf8.text)
          c.past_words-rest.ensures.passed c.past_words-rest.utf8;
      grown = grows_by_none made;
    }

pub range-requires-clause-end_boundary : goal.range-requires-clause-end_boundary
range-requires-clause-end_boundary c =
    let held = c.loop-c.invariant.held.held in
    let text = c.loop-c.pending.now in
    let rest = c.loop-c.rest.now in
    subst (IsCharBoundary text) (front_length text held.front rest held.split)
    (IsCharBoundary-at_seam text held.front rest held.split held.rest_utf8)

pub loop-c-preserved : goal.loop-c-preserved
loop-c-preserved c =
    let at = c.loop-c in
    let char = c.in-Some.c in
    let span = c.args.span.0 in
    let text = at.pending.now in
    let rest = at.rest.now in
    let after = c.as_str-after.result.now in
    let f = piece_node span in
    let made = map node_view at.nodes.items in
    let old = map node_view c.args.nodes.now.items in
    let all = old ++ text_nodes span (chars c.args.text.now) in
    let new = c.if-not-is_within in
    let parts : rest ≡ encode char ++ after =
    sym at.invariant.at ∙ rw c.as_str-after.ensures c.in-Some.ensures.steps.0 in
    let step : (Pending span new.returned c.is_normal-is_normal.result new.pending.now after
    (map node_view new.nodes.items) all × Grows old (map node_view new.nodes.items))
    × shadow (Utf8 new.pending.now)
    = elim c.if-not-is_within.branch [
      | then-not-is_within+in_ok-push_stretch+in_ok-push_outside w ↦
          let range : w.range.result.now ≡ take (length text - length rest) text =
          simp unary_clauses at w.range.ensures.value in
          let own = map f (with_stretch (chars (take (length text - length rest) text)) []) in
          let between = map f (outside_stretch (char_before w.is_after_return.result) char []) in
          let pushed = w.in_ok-push_outside.ensures.added ∙ ap (λ l. l ++ between)
          (w.in_ok-push_stretch.ensures.added
          ∙ ap (λ t. made ++ map f (with_stretch (chars t) [])) range) in
          let held = pending_outside after char at.invariant.held parts c.as_str-after.utf8
          (sym c.is_within.ensures ∙ w.if-not-is_within.true) w.is_after_return.ensures pushed in
          rw (w.nodes-is, w.pending-is, w.returned-is, c.is_normal-is_normal.ensures) (
            (held, grows_more _ (grows_more {made = made} own at.invariant.grown refl) pushed),
            c.as_str-after.utf8,
          )
      | else-not-is_within w ↦
          let one = passes_char c.is_normal-is_normal.result after char
          (passes_none at.ends_normal rest) at.invariant.held.held.rest_utf8 parts
          (sym c.is_within.ensures ∙ w.if-not-is_within.false) c.is_normal-is_normal.ensures in
          rw (w.nodes-is, w.pending-is, w.returned-is) (
            (pending_passes at.invariant.held one c.as_str-after.utf8, at.invariant.grown),
            at.invariant.pending_is_text,
          )
    ] in
    record {
      pending_is_text = step.1;
      rest_is_text = c.past_words-rest-in-Some.utf8;
      at = c.chars-left-in-Some.ensures.rest;
      held = pending_passes step.0.0 c.past_words-rest-in-Some.ensures.passed
          c.past_words-rest-in-Some.utf8;
      grown = step.0.1;
    }

pub returns-in_err-push_stretch-clause-begun : goal.returns-in_err-push_stretch-clause-begun
returns-in_err-push_stretch-clause-begun c =
    let at = c.loop-c in
    let new = map node_view c.push_stretch.new.nodes.items in
    on_err c.from_residual.result (AddsBeginning (map node_view c.args.nodes.now.items) new
    (text_nodes c.args.span.0 (chars c.args.text.now))) (begins _ _ at.invariant.grown
    (ap (map node_view) c.in_err-push_stretch.ensures.kept)
    at.invariant.held.held.agrees)

pub returns-in_err-push_outside-clause-begun : goal.returns-in_err-push_outside-clause-begun
returns-in_err-push_outside-clause-begun c =
    let at = c.loop-c in
    let char = c.in-Some.c in
    let text = at.pending.now in
    let rest = at.rest.now in
    let after = c.as_str-after.result.now in
    let f = piece_node c.args.span.0 in
    let made = map node_view at.nodes.items in
    let all = text_nodes c.args.span.0 (chars c.args.text.now) in
    let own = map f (with_stretch (chars (take (length text - length rest) text)) []) in
    let between = map f (outside_stretch (char_before c.is_after_return.result) char []) in
    let parts : rest ≡ encode char ++ after =
    sym at.invariant.at ∙ rw c.as_str-after.ensures c.in-Some.ensures.steps.0 in
    let range : c.range.result.now ≡ take (length text - length rest) text =
    simp unary_clauses at c.range.ensures.value in
    let apart = sym c.is_within.ensures ∙ c.if-not-is_within.true in
    let whole = pending_outside {new = (made ++ own) ++ between} after char at.invariant.held parts
    c.as_str-after.utf8 apart c.is_after_return.ensures refl in
    on_err c.from_residual-in_err-push_outside.result (AddsBeginning
    (map node_view c.args.nodes.now.items) (map node_view c.push_outside.new.nodes.items) all)
    (begins _ all (grows_more {made = made} own at.invariant.grown refl)
    (ap (map node_view) c.in_err-push_outside.ensures.kept ∙ (c.in_ok-push_stretch.ensures.added
    ∙ ap (λ t. made ++ map f (with_stretch (chars t) [])) range))
    (sym (append_assoc (made ++ own) between _) ∙ whole.held.agrees))

pub returns : goal.returns
returns c =
    let held = c.loop-c.invariant.held.held in
    let none : length c.loop-c.rest.now ≡ 0 =
    ap length (sym c.loop-c.invariant.at) ∙ c.in_default.ensures.steps.0.0 in
    let new = map node_view c.push_stretch-2.new.nodes.items in
    record {
      added = subst (λ all. OnOk c.push_stretch-2.result (new ≡ all)) (text_ended held none)
          c.push_stretch-2.ensures.added;
      begun = on_err_weaker c.push_stretch-2.result (λ kept. begins _ _ c.loop-c.invariant.grown
          (ap (map node_view) kept) held.agrees) c.push_stretch-2.ensures.kept;
    }
