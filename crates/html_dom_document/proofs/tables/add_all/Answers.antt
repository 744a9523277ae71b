use Rattle.std.{proofs.Common.{◌||◌, sym, ap, ◌∙◌}, proofs.Math.Bool.{or-false}, proofs.lemmas.Map.Iter.{rest_all}, specs.Map.Iter.{deref}}
use Rattle.html_dom_document.proofs.Locations.{among_keys}
use Rattle.html_dom_document.specs.{Introspectors.{has_location}, Places.{is_among}, Records.{locations_view}}
use Rattle.html_dom_document.proofs.tables.add_all.Goals as goal

pub returns : goal.returns
returns c = λ k.
    let now = has_location c.loop-location.locations k in
    let keys = c.args.others.now.keys in
    sym (or-false now)
    ∙ (ap (λ ks. now || is_among (locations_view ks) k)
    (sym (rest_all deref _ _ _ c.in-None.is c.next.ensures.steps))
    ∙ (c.loop-location.invariant k
    ∙ ap (λ b. has_location c.args.locations.now k || b) (among_keys keys k)))
