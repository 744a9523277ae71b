use Rattle.std.proofs.{Common.{◌≡◌, ◌==◌, true, false, option_map, is_some, ap, sym, subst, ◌∙◌}, lemmas.Bool.Decides.{Decides-eqb}}
use Rattle.std.specs.BTreeMap.{get}
use Rattle.html_dom_document.{proofs.Locations.{is_eq-nat_cmp, position_added}, specs.Introspectors.{location_cmp, position_view}}
use Rattle.html_dom_document.proofs.tables.add_position.Goals as goal

pub returns-in_ok-insert : goal.returns-in_ok-insert
returns-in_ok-insert c = λ k.
    let old = c.args.positions.now in
    let place = c.args.place in
    let absent : is_some (get location_cmp old place.location) ≡ false
    = sym c.contains_key.ensures ∙ c.if-not-contains_key.true in
    let not_there : (place.location.0 == k) ≡ true →
    is_some (get location_cmp old (record { 0 = k })) ≡ false
    = λ same. subst (λ j. is_some (get location_cmp old (record { 0 = j })) ≡ false)
    ((Decides-eqb place.location.0 k).0 same) absent in
    ap (option_map position_view) (c.in_ok-insert.ensures.updates.0 (record { 0 = k }))
    ∙ rw is_eq-nat_cmp (position_added (get location_cmp old (record { 0 = k }))
    (place.location.0 == k) place.position not_there)
