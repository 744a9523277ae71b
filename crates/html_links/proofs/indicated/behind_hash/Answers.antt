use Rattle.std.proofs.Common.{◌≡◌, ◌==◌, Some, true, false, chars, sym, ap, ◌∙◌, rules}
use Rattle.std.{proofs.lemmas.List.{nil_from_length}, proofs.lemmas.Str.{IsUtf8-past_char}, specs.Str.Iter.{chars_rest}}
use Rattle.html_links.{proofs.TakenFragments.{at_blank, at_hash, at_no_hash, at_other}, specs.Indicated.{is_control_or_space}}
use Rattle.html_links.proofs.indicated.behind_hash.Goals as goal

pub returns-then-c-eq35 : goal.returns-then-c-eq35
returns-then-c-eq35 c =
    let at = c.loop-c in
    let later = chars_rest c.next.new.self in
    let is : (c.in-Some.c == 35) ≡ true = search rules in
    ap (λ bs. Some (chars bs)) c.as_str.ensures
    ∙ (sym (at_hash (chars_rest at.left) later c.in-Some.c at.invariant.utf8 c.in-Some.ensures.steps.0 is)
    ∙ at.invariant.agrees)

pub returns-then-not-is_control_or_space : goal.returns-then-not-is_control_or_space
returns-then-not-is_control_or_space c =
    let at = c.loop-c in
    let other : (c.in-Some.c == 35) ≡ false = search rules in
    let shown : is_control_or_space c.in-Some.c ≡ false = search rules in
    sym (at_other (chars_rest at.left) (chars_rest c.next.new.self) c.in-Some.c at.invariant.utf8
    c.in-Some.ensures.steps.0 other shown)
    ∙ at.invariant.agrees

pub loop-c-preserved : goal.loop-c-preserved
loop-c-preserved c =
    let at = c.loop-c in
    let rest = chars_rest at.left in
    let later = chars_rest c.next.new.self in
    let other : (c.in-Some.c == 35) ≡ false = search rules in
    let blank : is_control_or_space c.in-Some.c ≡ true = search rules in
    record {
      utf8 = IsUtf8-past_char rest later c.in-Some.c at.invariant.utf8 c.in-Some.ensures.steps.0;
      agrees = sym (at_blank rest later c.in-Some.c at.invariant.utf8 c.in-Some.ensures.steps.0 other blank)
          ∙ at.invariant.agrees;
    }

pub returns : goal.returns
returns c =
    let at = c.loop-c in
    sym (at_no_hash (chars_rest at.left) (nil_from_length _ c.in_default.ensures.steps.0.0)) ∙ at.invariant.agrees
