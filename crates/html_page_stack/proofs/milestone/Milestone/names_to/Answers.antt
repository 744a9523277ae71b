use Rattle.std.proofs.Common.{◌^◌, sym, ap, ◌∙◌}
use Rattle.std.specs.Prelude.{bit_and}
use Rattle.html_page_stack.proofs.Milestones.{near_cover}
use Rattle.html_page_stack.proofs.milestone.Milestone.names_to.Goals as goal

pub returns-in-Special : goal.returns-in-Special
returns-in-Special c = λ os known sought n only none.
    near_cover c.args.bound os c.in-Special.is sought n only
    (ap (λ m. bit_and m.near_names (2 ^ n)) (sym known) ∙ none)
