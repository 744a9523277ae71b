use Rattle.std.proofs.Common.{◌≡◌, take}
use Rattle.html_values_css.specs.Properties.{list_view}
use Rattle.html_values_css.proofs.property_list.copies.Given as goal

abbrev pub invariant-loop-property : goal.invariant-loop-property
invariant-loop-property l = list_view l.copies.items
    ≡ list_view (take l.property-index l.list)
