use Rattle.std.proofs.Common.{◌≡◌, drop}
use Rattle.html_values.specs.{Casts.{presence_in}, Types.{attr_types_view}}
use Rattle.html_values.proofs.attr_type.+presence.Given as goal

abbrev pub invariant-is_presence_in-loop-member : goal.invariant-is_presence_in-loop-member
invariant-is_presence_in-loop-member l =
    presence_in (attr_types_view (drop l.member-index l.members))
    ≡ presence_in (attr_types_view l.members)
