use Rattle.std.proofs.Common.{sym, ap, ◌∙◌}
use Rattle.html_names_core.{proofs.Known.{attr_is_known}, specs.Tables.{is_known_attr}}
use Rattle.html_names_core.proofs.attr_kind.is_known.Goals as goal

pub returns-in-Known : goal.returns-in-Known
returns-in-Known c =
    let known = attr_is_known c.attr.inside.name c.in-Known.field-0 c.attr.invariant c.in-Known.is in
    sym (ap is_known_attr (sym c.attr.view_is) ∙ known)
