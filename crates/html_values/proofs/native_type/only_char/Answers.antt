use Rattle.std.proofs.Common.{[], sym, ap, ◌∙◌}
use Rattle.html_values.{proofs.OneChar.{one_is, more_are}, specs.Casts.{answer_faults}}
use Rattle.html_values.proofs.native_type.only_char.Goals as goal

pub returns-in-Some-None : goal.returns-in-Some-None
returns-in-Some-None c =
    let one = one_is c.args.text.now _ c.in-Some-None.c c.utf8.text
    (sym c.chars-characters.ensures.rest ∙ c.in-Some-None.ensures.steps.0)
    c.in-Some-None.ensures'.steps.0.0 in
    record { made = sym one; clean = ap answer_faults one; fault = tt }

pub returns-in_default : goal.returns-in_default
returns-in_default c =
    let more = more_are c.args.text.now _ _ c.in_default.field-0-0 c.in_default.field-0-1 c.utf8.text
    (sym c.chars-characters.ensures.rest ∙ c.in_default.ensures.steps.0)
    c.in_default.ensures'.steps.0 in
    record { made = tt; clean = tt; fault = ([], ap answer_faults more) }
