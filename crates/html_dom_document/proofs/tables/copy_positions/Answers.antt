use Rattle.std.specs.BTreeMap.{is_at}
use Rattle.html_dom_document.{proofs.Locations.{same_looked_up}, specs.Introspectors.{location_cmp, position_view}}
use Rattle.html_dom_document.proofs.tables.copy_positions.Goals as goal

pub returns : goal.returns
returns c = λ k.
    same_looked_up position_view _ _ (λ p q e. e) (λ x y e. e)
    (is_at (location_cmp (record { 0 = k }))) c.args.positions.now.entries c.in_ok-copy.copy.entries
    c.in_ok-copy.ensures.cases
