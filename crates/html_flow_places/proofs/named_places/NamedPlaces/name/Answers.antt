use Rattle.std.proofs.Common.{ap, ◌∙◌, chars, Some}
use Rattle.html_names_core.specs.Texts.{texts_view}
use Rattle.html_flow_places.proofs.NamedLocations.{name_held}
use Rattle.html_flow_places.proofs.named_places.NamedPlaces.name.Goals as goal

pub returns : goal.returns
returns c =
    let there = c.in_ok-get.ensures.lookup in
    ap (λ text. Some (chars text)) c.as_str.ensures.value
    ∙ name_held c.deref.result.now _ _ _ _ (ap texts_view c.deref.ensures.value ∙ c.self.view_is)
    c.in_ok-number.ensures.0 c.in_ok-number.ensures.1 there.3.0 there.1
