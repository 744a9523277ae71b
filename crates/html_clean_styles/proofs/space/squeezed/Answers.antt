use Rattle.std.proofs.Common.{◌≡◌, ◌++◌, true, false, chars, sym, ap, ◌∙◌, rules}
use Rattle.std.proofs.lemmas.List.{append-nil}
use Rattle.html_clean_styles.{proofs.Spaces.{at_end, at_space, put}, specs.Styles.{is_space, squeezed, squeezed_from}}
use Rattle.html_clean_styles.proofs.space.squeezed.Goals as goal

pub loop-c-preserved-then-is_space : goal.loop-c-preserved-then-is_space
loop-c-preserved-then-is_space c =
    let at = c.loop-c in
    let is : is_space c.in-Some.c ≡ true = sym c.is_space.ensures ∙ c.if-is_space.true in
    record {
      is_text = search rules;
      same = ap (λ l. at.made ++ l) (sym (ap (squeezed_from at.begun at.gap) c.in-Some.ensures
          ∙ at_space at.begun at.gap c.in-Some.c (chars c.in-Some.rest.now) is))
          ∙ at.invariant.same;
    }

pub loop-c-preserved : goal.loop-c-preserved
loop-c-preserved c =
    let at = c.loop-c in
    let shown : is_space c.in-Some.c ≡ false = sym c.is_space.ensures ∙ c.if-is_space.false in
    record {
      is_text = search rules;
      same = put at.made c.push_behind.new.made (chars c.in-Some.rest.now) (squeezed (chars c.args.text.now))
          at.begun at.gap c.in-Some.c shown c.in_ok-push_behind.ensures
          (ap (λ l. at.made ++ squeezed_from at.begun at.gap l) (sym c.in-Some.ensures) ∙ at.invariant.same);
    }

pub returns : goal.returns
returns c =
    let at = c.loop-c in
    c.into_string.ensures
    ∙ (sym (append-nil at.made)
    ∙ (ap (λ l. at.made ++ l) (sym (at_end at.begun at.gap))
    ∙ (ap (λ l. at.made ++ squeezed_from at.begun at.gap l) (sym c.in_default.ensures) ∙ at.invariant.same)))
