use Rattle.std.proofs.{Common.{◌≡◌, ◌+◌, ◌-◌, ◌++◌, chars, take, sym, ap, ◌∙◌, arith}, lemmas.Str.{chars_past_char}}
use lib.Utf8.{encode}
use Rattle.html_text.{proofs.Places.{first_long, one_more, passed}, specs.Places.{beginning, place_at, place_behind}}
use Rattle.html_text.proofs.place.place_at.Goals as goal

pub loop-done-init : goal.loop-done-init
unfolding place_at
loop-done-init c = record {
  is_text = c.utf8.text;
  same = ap (λ n. place_behind beginning (take n (chars c.args.text.now))) (omega arith);
  room = omega arith;
  line = omega arith;
  column = omega arith;
}

pub loop-done-preserved : goal.loop-done-preserved
loop-done-preserved c =
    let at = c.loop-done in
    let held = at.invariant in
    let d = c.in-Some.c in
    let later = c.as_str-rest.result.now in
    let parts : at.rest.now ≡ encode d ++ later =
    sym c.chars-left.ensures.rest ∙ (c.in-Some.ensures.steps.0
    ∙ ap (λ l. encode d ++ l) (sym c.as_str-rest.ensures)) in
    let left = chars_past_char at.rest.now later d held.is_text parts in
    let long = first_long at.rest.now later d parts in
    let one = passed at.place c.next_place-place.result d c.next_place-place.ensures in
    record {
      is_text = c.as_str-rest.utf8;
      same = ap (λ p. place_behind p (take (c.args.count - (at.done + 1)) (chars later)))
          c.next_place-place.ensures
          ∙ (sym (one_more at.place c.args.count at.done d (chars later) c.loop-done-test.true)
          ∙ (ap (λ cs. place_behind at.place (take (c.args.count - at.done) cs)) (sym left)
          ∙ held.same));
      room = omega (arith, held.room, one.0, long.0);
      line = omega (arith, held.line, one.0, one.1, long.1);
      column = omega (arith, held.column, one.0, one.2, long.1);
    }
