use Rattle.std.proofs.{Common.{◌≡◌, ◌++◌, chars, sym, ap, ◌∙◌, arith}, StrCases.{chars_of_empty}}
use Rattle.std.{proofs.lemmas.Str.{chars_past_char}, specs.Str.Iter.{chars_rest}}
use lib.Utf8.{encode}
use Rattle.html_page_read.specs.{PageReaderViews.{reader_of}, PageReading.{run}}
use Rattle.html_text.proofs.Places.{first_long}
use Rattle.html_page_read.proofs.read.run.Goals as goal

pub read_front-requires : goal.read_front-requires
read_front-requires c = omega (arith, c.loop-past.invariant.few, c.requires)

pub step-requires : goal.step-requires
step-requires c =
    let held = c.loop-past.invariant in
    let got = c.in_ok-past.ensures in
    let past = c.in_ok-past.past.now in
    let long = first_long past (chars_rest c.next.new.self) c.in-Some.c
    (sym c.chars-left.ensures.rest ∙ c.in-Some.ensures.steps.0) in
    omega (arith, held.few, got.place, c.requires, long.0, long.1)

pub loop-past-smaller : goal.loop-past-smaller
loop-past-smaller c =
    let got = c.in_ok-past.ensures in
    let past = c.in_ok-past.past.now in
    let d = c.in-Some.c in
    let later = c.as_str-rest.result.now in
    let parts : past ≡ encode d ++ later =
    sym c.chars-left.ensures.rest ∙ (c.in-Some.ensures.steps.0
    ∙ ap (λ l. encode d ++ l) (sym c.as_str-rest.ensures)) in
    let long = first_long past later d parts in
    omega (arith, got.fewer, long.0, long.1)

pub loop-past-preserved : goal.loop-past-preserved
loop-past-preserved c =
    let held = c.loop-past.invariant in
    let got = c.in_ok-past.ensures in
    let past = c.in_ok-past.past.now in
    let d = c.in-Some.c in
    let q = reader_of c.read_front.new.self in
    let later = c.as_str-rest.result.now in
    let parts : past ≡ encode d ++ later =
    sym c.chars-left.ensures.rest ∙ (c.in-Some.ensures.steps.0
    ∙ ap (λ l. encode d ++ l) (sym c.as_str-rest.ensures)) in
    let long = first_long past later d parts in
    let left = chars_past_char past later d got.rest_utf8 parts in
    record {
      is_text = c.as_str-rest.utf8;
      same = ap (λ p. run p (chars later)) c.in_ok-step.ensures.moves
          ∙ (sym (ap (λ cs. run q cs) left) ∙ (sym got.same ∙ held.same));
      few = omega (arith, held.few, got.place, c.in_ok-step.ensures.place, long.0, long.1);
    }

pub returns-in_default : goal.returns-in_default
returns-in_default c =
    let held = c.loop-past.invariant in
    let got = c.in_ok-past.ensures in
    let q = reader_of c.read_front.new.self in
    let empty = ap chars (sym c.chars-left.ensures.rest)
    ∙ chars_of_empty _ c.in_default.ensures.steps.0.0 in
    sym (ap (λ cs. run q cs) empty) ∙ (sym got.same ∙ held.same)
