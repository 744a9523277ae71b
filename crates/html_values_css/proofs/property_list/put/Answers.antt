use Rattle.std.proofs.Common.{◌≡◌, sym, ap, chars, get_or}
use Rattle.html_names_core.specs.Texts.{text_view}
use Rattle.html_values_css.{proofs.Listing.{put_found}, proofs.Names.{by_name_total}, specs.Properties.{property_name, property_view}}
use Rattle.html_values_css.specs.declared.property.Property.{Property}
use Rattle.html_values_css.proofs.property_list.put.Goals as goal

pub returns-in-Ok-clause-ok : goal.returns-in-Ok-clause-ok
returns-in-Ok-clause-ok c =
    let list = c.args.list.now.items in
    let there = c.index_mut.result.now in
    let value = text_view c.args.value in
    let found = rw c.deref.ensures.value at c.in-Ok.ensures in
    let here : there ≡ get_or list c.in-Ok.at there = c.index_mut.ensures.value in
    sym (put_found by_name_total property_view list (chars c.args.name.now) value c.in-Ok.at
    (record { name = there.name; value = c.args.value }) there
    found.within found.before found.here (ap (λ (p : Property). (property_name p, value)) here))
