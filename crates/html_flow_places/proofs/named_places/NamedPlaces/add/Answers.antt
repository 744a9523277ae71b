use Rattle.std.proofs.{Common.{refl, sym, ◌∙◌, rules}, lemmas.List.{length-map}}
use Rattle.html_names_core.specs.Texts.{texts_view}
use Rattle.html_names_table.proofs.NameTables.{with_name-new}
use Rattle.html_flow_places.proofs.{HeldLocations.{next}, NamedLocations.{added_names, last_location}}
use Rattle.html_flow_places.proofs.named_places.NamedPlaces.add.Goals as goal

pub invariant_of-self-in_default : goal.invariant_of-self-in_default
invariant_of-self-in_default c =
    next c.self.inside.locations c.put.new.locations (texts_view c.self.inside.names.items)
    (texts_view c.push.new.self.items) c.args.name.now _ c.utf8.name
    (added_names _ _ c.in_ok-from_str.field-0 _ _ refl c.in_ok-from_str.ensures.ok
    c.in_ok-push.ensures.items)
    (search (rules, c.len.ensures, length-map)) c.self.invariant
    (rw c.self.view_is c.requires) c.in_default.ensures.placed

pub returns : goal.returns
returns c = record {
  location =
      search (rules, c.len.ensures)
      ∙ last_location _ _ _ _ _ c.self.view_is c.in_ok-push.ensures.items c.requires;
  names =
      added_names _ _ _ _ _ c.self.view_is c.in_ok-from_str.ensures.ok c.in_ok-push.ensures.items
      ∙ sym (with_name-new _ _ c.requires);
  absent = tt;
  kept = tt;
}
