use Rattle.std.proofs.{Common.{◌≡◌, ◌++◌, chars, eqb, sym, ap, ◌∙◌, arith}, StrCases.{chars_of_empty}, lemmas.Str.{chars_past_char}}
use lib.Utf8.{encode}
use Rattle.html_page_read.{proofs.PlaceSteps.{next_reached, none_more, one_more}, specs.PagePlaces.{place_from}}
use Rattle.html_page_read.proofs.place.Places.moved_to.Goals as goal

pub loop-place-preserved : goal.loop-place-preserved
loop-place-preserved c =
    let at = c.loop-place in
    let held = at.invariant in
    let d = c.in-Some.c in
    let later = c.as_str-rest.result.now in
    let parts : at.rest.now ≡ encode d ++ later =
    sym c.chars-left.ensures.rest ∙ (c.in-Some.ensures.steps.0
    ∙ ap (λ l. encode d ++ l) (sym c.as_str-rest.ensures)) in
    let left = chars_past_char at.rest.now later d held.is_text parts in
    record {
      is_text = c.as_str-rest.utf8;
      reached = next_reached c.args.self.text.now at.rest.now later at.after_return at.place
          c.next_place-place.result d c.next_place-place.ensures parts left held.reached;
      same = ap (λ p. place_from (eqb d 13) p (chars later) c.args.offset) c.next_place-place.ensures
          ∙ (sym (one_more at.after_return at.place d (chars later) c.args.offset c.loop-place-test.true)
          ∙ (ap (λ cs. place_from at.after_return at.place cs c.args.offset) (sym left)
          ∙ held.same));
    }

pub returns-in_default-clause-place : goal.returns-in_default-clause-place
returns-in_default-clause-place c =
    let at = c.loop-place in
    let empty = ap chars (sym c.chars-left.ensures.rest)
    ∙ chars_of_empty _ c.in_default.ensures.steps.0.0 in
    ap (λ cs. place_from at.after_return at.place cs c.args.offset) (sym empty)
    ∙ at.invariant.same

pub returns-clause-place : goal.returns-clause-place
returns-clause-place c =
    let at = c.loop-place in
    sym (none_more at.after_return at.place (chars at.rest.now) c.args.offset
    (omega (arith, c.loop-place-test.false)))
    ∙ at.invariant.same
