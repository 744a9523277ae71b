use Rattle.html_values_css.proofs.Names.{only_found, only_missed}
use Rattle.std.proofs.Common.{chars}
use Rattle.html_values_css.proofs.property_list.is_named.Goals as goal

pub returns-in-Ok : goal.returns-in-Ok
returns-in-Ok c =
    let found = rw c.from_ref.ensures.value at c.in-Ok.ensures in
    only_found c.args.property.now (chars c.args.name.now) _ found.within found.before found.here

pub returns-in-Err : goal.returns-in-Err
returns-in-Err c =
    let gap = rw c.from_ref.ensures.value at c.in-Err.ensures in
    only_missed c.args.property.now (chars c.args.name.now) _ gap.within gap.before gap.after
