use Rattle.std.proofs.{Common.{chars, sym, ap, ◌∙◌}, StrCases.{chars_of_empty}}
use Rattle.std.proofs.lemmas.Str.{IsUtf8-past_char, chars_past_char}
use Rattle.std.specs.Str.Iter.{chars_rest}
use Rattle.html_page_read.specs.{PageReaderViews.{reading_of}, PageTokens.{chars_emitted}}
use Rattle.html_page_read.proofs.reading.Reading.emit_text.Goals as goal

pub loop-c-preserved : goal.loop-c-preserved
loop-c-preserved c =
    let held = c.loop-c.invariant in
    let d = c.in-Some.c in
    let r = reading_of c.loop-c.self in
    let later = chars (chars_rest c.next.new.self) in
    let left = chars_past_char _ _ d held.utf8 c.in-Some.ensures.steps.0 in
    record {
      utf8 = IsUtf8-past_char _ _ d held.utf8 c.in-Some.ensures.steps.0;
      same = ap (chars_emitted later) c.in_ok-emit_char.ensures
          ∙ (sym (ap (λ cs. chars_emitted cs r) left) ∙ held.same);
    }

pub returns : goal.returns
returns c =
    let held = c.loop-c.invariant in
    let r = reading_of c.loop-c.self in
    let left = chars_of_empty _ c.in-None.ensures.steps.0.0 in
    sym (ap (λ cs. chars_emitted cs r) left) ∙ held.same
