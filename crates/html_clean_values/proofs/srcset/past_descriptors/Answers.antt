use Rattle.std.proofs.Common.{rules, chars, length, sym, ap, ◌∙◌, arith}
use Rattle.html_clean_values.proofs.SrcsetSteps.{candidate_ends, candidate_goes_on, descriptors_end, in_descriptors, none_left}
use Rattle.html_clean_values.specs.Srcsets.{Between, urls_from}
use Rattle.html_clean_values.proofs.srcset.past_descriptors.Goals as goal

pub returns-then-ends_candidate-clause-urls : goal.returns-then-ends_candidate-clause-urls
returns-then-ends_candidate-clause-urls c =
    let b = c.loop-c.in_parentheses in
    sym (candidate_ends b c.in-Some.c (chars c.in-Some.rest.now)
    (sym c.ends_candidate.ensures ∙ c.if-ends_candidate.true))
    ∙ (ap (urls_from (in_descriptors b)) (sym c.in-Some.ensures) ∙ c.loop-c.invariant.same)

pub loop-c-preserved : goal.loop-c-preserved
loop-c-preserved c =
    let held = c.loop-c.invariant in
    let b = c.loop-c.in_parentheses in
    record {
      is_text = search rules;
      same = ap (λ d. urls_from (in_descriptors d) (chars c.in-Some.rest.now))
          c.behind_char-in_parentheses.ensures
          ∙ (sym (candidate_goes_on b c.in-Some.c (chars c.in-Some.rest.now)
          (sym c.ends_candidate.ensures ∙ c.if-ends_candidate.false))
          ∙ (ap (urls_from (in_descriptors b)) (sym c.in-Some.ensures) ∙ held.same));
      long = omega (arith, ap length c.in-Some.ensures, held.long);
    }

pub returns-clause-urls : goal.returns-clause-urls
returns-clause-urls c =
    let b = c.loop-c.in_parentheses in
    ap (urls_from Between) c.in_default.ensures
    ∙ (none_left ∙ (sym (descriptors_end b)
    ∙ (ap (urls_from (in_descriptors b)) (sym c.in_default.ensures) ∙ c.loop-c.invariant.same)))
