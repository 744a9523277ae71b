use Rattle.std.proofs.Common.{ap, rules}
use Rattle.html_names_core.specs.Texts.{texts_view}
use Rattle.html_flow_places.proofs.HeldLocations.{fresh}
use Rattle.html_flow_places.proofs.named_places.NamedPlaces.new.Goals as goal

pub invariant_of-result : goal.invariant_of-result
invariant_of-result c =
    fresh c.new-2.result _ (ap texts_view c.new.ensures.items)
    (λ text. search (rules, c.new-2.ensures.empty))
