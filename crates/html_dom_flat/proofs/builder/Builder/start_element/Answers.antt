use Rattle.std.proofs.Common.{refl, ◌∙◌}
use Rattle.html_dom_flat.proofs.builder.Builder.start_element.Goals as goal

pub returns-clause-list : goal.returns-clause-list
returns-clause-list c =
    let numbered = c.in_ok-tag.ensures in
    c.in_ok-push.ensures.list
    ∙ rw (numbered.list, numbered.numbers.same, numbered.numbers.pairs_are.same, c.new.ensures) refl
