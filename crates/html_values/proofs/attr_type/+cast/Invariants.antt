use Rattle.std.proofs.Common.{◌≡◌, drop}
use Rattle.html_values.proofs.Joined.{after}
use Rattle.html_values.specs.{Casts.{cast, first_cast, item_texts}, Types.{inner_view, attr_types_view}, Values.{value_view, values_view}}
use Rattle.html_names_core.specs.Texts.{texts_view}
use Rattle.html_values.proofs.attr_type.+cast.Given as goal

abbrev pub invariant-cast_by_first-loop-kind : goal.invariant-cast_by_first-loop-kind
invariant-cast_by_first-loop-kind l =
    first_cast (attr_types_view (drop l.kind-index l.members)) (value_view l.value)
    ≡ first_cast (attr_types_view l.members) (value_view l.value)

abbrev pub invariant-ListType::texts-loop-item : goal.invariant-ListType::texts-loop-item
invariant-ListType::texts-loop-item l =
    let texts_of = item_texts (cast (inner_view l.self)) l.self.separator in
    after (texts_view l.texts.items) (texts_of (values_view (drop l.item-index l.items)))
    ≡ texts_of (values_view l.items)
