use Rattle.std.proofs.{Common.{◌≡◌, ◌+◌, ◌*◌, chars, min, sym, ap, ◌∙◌}, StrCases.{chars_of_empty}}
use Rattle.std.{proofs.lemmas.Str.{IsUtf8-past_char, chars_past_char}, specs.Char.{digit_value}}
use Rattle.std.specs.Str.{Iter.{chars_rest}, Parse.{digits_value_after}}
use native.Mathlib.Nat.{min-eq_left}
use Rattle.html_page_read.proofs.References.{capped, at_most}
use Rattle.html_page_read.proofs.number.number_of.Goals as goal

pub loop-c-preserved : goal.loop-c-preserved
loop-c-preserved c =
    let held = c.loop-c.invariant in
    let d = c.in-Some.c in
    let b = c.args.base in
    let n = c.loop-c.number in
    let later = chars (chars_rest c.next.new.self) in
    let left = chars_past_char _ _ d held.utf8 c.in-Some.ensures.steps.0 in
    let is : c.min-number.result ≡ min (n * b + digit_value d) 0x11_0000 =
    c.min-number.ensures ∙ ap (λ v. min (n * b + v) 0x11_0000) c.digit_value.ensures in
    record {
      utf8 = IsUtf8-past_char _ _ d held.utf8 c.in-Some.ensures.steps.0;
      few = rw is (at_most (n * b + digit_value d));
      same = ap (λ m. min (digits_value_after b m later) 0x11_0000) is
          ∙ (capped b (n * b + digit_value d) later c.requires.some
          ∙ (ap (λ cs. min (digits_value_after b n cs) 0x11_0000) (sym left) ∙ held.same));
    }

pub returns : goal.returns
returns c =
    let held = c.loop-c.invariant in
    let left = chars_of_empty _ c.in-None.ensures.steps.0.0 in
    sym (min-eq_left held.few)
    ∙ (ap (λ cs. min (digits_value_after c.args.base c.loop-c.number cs) 0x11_0000) (sym left)
    ∙ held.same)
