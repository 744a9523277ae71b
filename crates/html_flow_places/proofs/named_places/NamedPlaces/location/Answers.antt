use Rattle.std.proofs.Common.{sym, ◌∙◌}
use Rattle.html_names_table.proofs.NameTables.{with_name-stands}
use Rattle.html_flow_places.proofs.HeldLocations.{found}
use Rattle.html_flow_places.proofs.named_places.NamedPlaces.location.Goals as goal

pub returns-in-Some : goal.returns-in-Some
returns-in-Some c =
    let held = found _ _ _ (c.in-Some.ensures.value ∙ c.self.invariant.1 _ c.utf8.name) in
    record {
      location = rw (sym c.self.view_is) held.0;
      names = sym (with_name-stands _ _ (rw (sym c.self.view_is) held.1));
      absent = tt;
      kept = tt;
    }
