use Rattle.std.proofs.Common.{◌≡◌, drop}
use Rattle.html_values.specs.{Casts.{castable_by_any}, Types.{attr_types_view}, Values.{value_view}}
use Rattle.html_values.proofs.attr_type.+castable.Given as goal

abbrev pub invariant-is_castable_by_any-loop-member : goal.invariant-is_castable_by_any-loop-member
invariant-is_castable_by_any-loop-member l =
    castable_by_any (attr_types_view (drop l.member-index l.members)) (value_view l.value)
    ≡ castable_by_any (attr_types_view l.members) (value_view l.value)
