use Rattle.std.proofs.Common.{◌≡◌, true, false, not, ◌||◌, chars, sym, ap, ◌∙◌, rules}
use Rattle.std.proofs.lemmas.{List.{nil_from_length}, Str.{IsUtf8-past_char, chars-nil, chars_past_char}}
use Rattle.std.specs.{List.{list_any}, Str.Iter.{chars_rest}}
use Rattle.html_links.specs.{Directives.{has_directive}, Spellings.{is_in_fragment_set}}
use Rattle.html_links.proofs.spellings.is_left.Goals as goal

pub returns-then-is_in_fragment_set : goal.returns-then-is_in_fragment_set
returns-then-is_in_fragment_set c =
    let at = c.loop-c in
    let rest = chars_rest at.c-iterator in
    let later = chars_rest c.next.new.self in
    let is : is_in_fragment_set c.in-Some.c ≡ true = search rules in
    ap (λ b. not (b || has_directive (chars c.args.name.now)))
    (ap (λ b. b || list_any is_in_fragment_set (chars later)) (sym is)
    ∙ (ap (list_any is_in_fragment_set)
    (sym (chars_past_char rest later c.in-Some.c at.invariant.utf8 c.in-Some.ensures.steps.0))
    ∙ at.invariant.agrees))

pub loop-c-preserved : goal.loop-c-preserved
loop-c-preserved c =
    let at = c.loop-c in
    let rest = chars_rest at.c-iterator in
    let later = chars_rest c.next.new.self in
    let is : is_in_fragment_set c.in-Some.c ≡ false = search rules in
    record {
      utf8 = IsUtf8-past_char rest later c.in-Some.c at.invariant.utf8 c.in-Some.ensures.steps.0;
      agrees = ap (λ b. b || list_any is_in_fragment_set (chars later)) (sym is)
          ∙ (ap (list_any is_in_fragment_set)
          (sym (chars_past_char rest later c.in-Some.c at.invariant.utf8 c.in-Some.ensures.steps.0))
          ∙ at.invariant.agrees);
    }

pub returns : goal.returns
returns c =
    let at = c.loop-c in
    ap not (c.has_directive.ensures
    ∙ ap (λ b. b || has_directive (chars c.args.name.now))
    (sym (ap (λ l. list_any is_in_fragment_set (chars l)) (nil_from_length _ c.in-None.ensures.steps.0.0)
    ∙ ap (list_any is_in_fragment_set) chars-nil)
    ∙ at.invariant.agrees))
