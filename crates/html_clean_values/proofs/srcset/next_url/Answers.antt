use Rattle.std.proofs.Common.{rules, chars, length, sym, ap, ◌∙◌, arith}
use Rattle.html_clean_values.proofs.SrcsetSteps.{none_left, separator_passed, takes_url}
use Rattle.html_clean_values.specs.Srcsets.{Between, urls_from}
use Rattle.html_clean_values.proofs.srcset.next_url.Goals as goal

pub returns-then-not-is_separator : goal.returns-then-not-is_separator
returns-then-not-is_separator c =
    let held = c.loop-c.invariant in
    takes_url (chars c.args.srcset.now) (chars c.loop-c.left.now) c.in-Some.c
    (chars c.in-Some.rest.now) (chars c.cut_word.result.0.now) (chars c.cut_word.result.1.now)
    held.same held.long c.in-Some.ensures
    (sym c.is_separator.ensures ∙ c.if-not-is_separator.true)
    c.cut_word.ensures.word c.cut_word.ensures.rest

pub loop-c-preserved : goal.loop-c-preserved
loop-c-preserved c =
    let held = c.loop-c.invariant in
    record {
      is_text = search rules;
      same = sym (separator_passed c.in-Some.c (chars c.in-Some.rest.now)
          (sym c.is_separator.ensures ∙ c.if-not-is_separator.false))
          ∙ (ap (urls_from Between) (sym c.in-Some.ensures) ∙ held.same);
      long = omega (arith, ap length c.in-Some.ensures, held.long);
    }

pub returns : goal.returns
returns c =
    sym c.loop-c.invariant.same ∙ (ap (urls_from Between) c.in_default.ensures ∙ none_left)
