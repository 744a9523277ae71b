use Rattle.std.proofs.{Common.{[], ap, ◌∙◌, unwrap_or}, lemmas.Slice.Eq.{bytes_eq-Decides}}
use Rattle.html_flow_places.proofs.NamedLocations.{added_there}
use Rattle.html_flow_places.proofs.laws.name_at_location.Goals as goal

pub returns-in-Some-clause-locations : goal.returns-in-Some-clause-locations
returns-in-Some-clause-locations c =
    let there = added_there c.args.places.now _ _ _ _ c.in-Some.ensures
    c.in_ok-location.ensures.location c.in_ok-location.ensures.names in
    c.same_text.ensures ∙ (bytes_eq-Decides _ _).1 (ap (λ name. unwrap_or name []) there)

pub returns-in-None-clause-locations : goal.returns-in-None-clause-locations
returns-in-None-clause-locations c =
    let there = added_there c.args.places.now _ _ _ _ c.in-None.ensures
    c.in_ok-location.ensures.location c.in_ok-location.ensures.names in cc
