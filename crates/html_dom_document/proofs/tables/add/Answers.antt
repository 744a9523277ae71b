use Rattle.std.proofs.Common.{◌∙◌, ◌==◌}
use Rattle.html_dom_document.{proofs.Locations.{is_eq-nat_cmp, set_or}, specs.Introspectors.{has_location}}
use Rattle.html_dom_document.proofs.tables.add.Goals as goal

pub returns : goal.returns
returns c = λ k.
    c.in_ok-insert.ensures.updates.0 (record { 0 = k })
    ∙ rw is_eq-nat_cmp (set_or (c.args.location.0 == k) (has_location c.args.locations.now k))
