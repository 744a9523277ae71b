use Rattle.std.proofs.Common.{sym, ap, ◌∙◌, chars}
use Rattle.html_values_css.proofs.{Listing.{drop_found, drop_gap}, Names.{by_name_total}}
use Rattle.html_values_css.specs.Properties.{list_view, property_view}
use Rattle.html_values_css.proofs.property_list.take_out.Goals as goal

pub returns-in-Ok : goal.returns-in-Ok
returns-in-Ok c =
    let found = rw c.deref.ensures.value at c.in-Ok.ensures in
    ap list_view c.remove-taken.ensures.items
    ∙ sym (drop_found by_name_total property_view c.args.list.now.items (chars c.args.name.now)
    c.in-Ok.at found.within found.before found.here)

pub returns-in-Err : goal.returns-in-Err
returns-in-Err c =
    let gap = rw c.deref.ensures.value at c.in-Err.ensures in
    sym (drop_gap by_name_total property_view c.args.list.now.items (chars c.args.name.now) _
    gap.within gap.before gap.after)
