use Rattle.std.proofs.Common.{◌∙◌, string_bytes}
use Rattle.html_flow_convert.proofs.LoneNodes.{display_removed, display_set}
use Rattle.html_flow_convert.proofs.lone.DisplayChange.apply.Goals as goal

pub returns-in-Removed : goal.returns-in-Removed
returns-in-Removed c =
    c.remove.ensures ∙ display_removed c.args.self c.args.css.now c.in-Removed.is

pub returns-in_ok-push-in-SetTo : goal.returns-in_ok-push-in-SetTo
returns-in_ok-push-in-SetTo c =
    c.in_ok-push-in-SetTo.ensures.ok
    ∙ display_set c.args.self c.args.css.now c.in-SetTo.value
    (string_bytes c.in_ok-from_str-in-SetTo.field-0) c.in-SetTo.is c.in_ok-from_str-in-SetTo.ensures.ok
