use Rattle.std.proofs.{Common.{◌≡◌, ◌++◌, chars, sym, ap, ◌∙◌}, StrCases.{chars_of_empty}, lemmas.Str.{chars_past_char, IsUtf8-past_char}}
use Rattle.std.specs.Str.Iter.{chars_rest}
use lib.Utf8.{encode}
use Rattle.html_dom_shown.specs.Collapsing.{text_atoms}
use Rattle.html_page_text.specs.{Gathering.{run}, PageViews.{seen_view}}
use Rattle.html_page_text.proofs.seen.Seen.text.Goals as goal

pub loop-c-preserved : goal.loop-c-preserved
unfolding run
loop-c-preserved c =
    let at = c.loop-c in
    let held = at.invariant in
    let d = c.in-Some.c in
    let rest = chars_rest at.c-iterator in
    let later = chars_rest c.next.new.self in
    let parts : rest ≡ encode d ++ later = c.in-Some.ensures.steps.0 in
    let left = chars_past_char rest later d held.utf8 parts in
    record {
      utf8 = IsUtf8-past_char rest later d held.utf8 parts;
      agrees = ap (λ s. run s (text_atoms c.args.preserved (chars later))) c.in_ok-character.ensures
          ∙ (ap (λ l. run (seen_view at.self) (text_atoms c.args.preserved l)) (sym left)
          ∙ held.agrees);
    }

pub returns : goal.returns
unfolding run
returns c =
    let at = c.loop-c in
    let empty = chars_of_empty (chars_rest at.c-iterator) c.in-None.ensures.steps.0.0 in
    ap (λ l. run (seen_view at.self) (text_atoms c.args.preserved l)) (sym empty)
    ∙ at.invariant.agrees
