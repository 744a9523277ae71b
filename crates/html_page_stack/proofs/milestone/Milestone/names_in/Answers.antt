use Rattle.std.proofs.Common.{◌^◌, sym, ap, ◌∙◌}
use Rattle.std.specs.Prelude.{bit_and}
use Rattle.html_page_stack.proofs.Milestones.{scope_cover, table_cover}
use Rattle.html_page_stack.proofs.milestone.Milestone.names_in.Goals as goal

pub returns-in-General : goal.returns-in-General
returns-in-General c = λ os known sought n only none.
    scope_cover c.args.scope os c.in-General.is sought n only
    (ap (λ m. bit_and m.scope_names (2 ^ n)) (sym known) ∙ none)

pub returns-in-Table : goal.returns-in-Table
returns-in-Table c = λ os known sought n only none.
    table_cover c.args.scope os c.in-Table.is sought n only
    (ap (λ m. bit_and m.table_names (2 ^ n)) (sym known) ∙ none)
