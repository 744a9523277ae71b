use Rattle.std.proofs.Common.{◌≡◌, [], ap, drop, reverse, ◌∙◌}
use Rattle.html_dom_tree.specs.Views.{nodes_view}
use Rattle.html_dom_walk.proofs.{Events.{none_next}, Turning.{left_is}}
use Rattle.html_dom_walk.specs.{Events.{events_of, leave}, Walks.{above_view, back, events_after, events_left, next_in, parent_in}}
use Rattle.html_dom_walk.specs.declared.walk.Walk.{Walk}
use Rattle.html_dom_walk.proofs.walk.Walk.leave.Goals as goal

none_left : (w : Walk) → nodes_view (drop (next_in w.place.begun (back w.place)) w.siblings.now)
    ≡ nodes_view [] → events_left w
    ≡ events_after (above_view w.above) (parent_in w.place.begun (back w.place))
none_left w none =
    let parent = parent_in w.place.begun (back w.place) in
    let next = next_in w.place.begun (back w.place) in
    let after = events_after (above_view w.above) parent in
    ap (λ ns. events_of (reverse parent) next ns after) none ∙ none_next (reverse parent) next after

pub returns-in-Some : goal.returns-in-Some
returns-in-Some c =
    let w = c.args.self.now in
    let parent = parent_in w.place.begun (back w.place) in
    none_left w (ap nodes_view c.requires)
    ∙ (ap (λ above. events_after above parent) c.in-Some.ensures.some
    ∙ left_is c.leave.new.self parent c.in-Some.siblings.now (above_view c.pop.new.self) leave
    c.leave.ensures.begun c.leave.ensures.path)

pub returns-in-None : goal.returns-in-None
returns-in-None c =
    let w = c.args.self.now in
    let parent = parent_in w.place.begun (back w.place) in
    let left : Walk = record { siblings = w.siblings; above = c.pop.new.self; place = w.place } in (
      none_left w (ap nodes_view c.requires)
          ∙ ap (λ above. events_after above parent) c.in-None.ensures.none.0,
      none_left left (ap nodes_view c.requires)
          ∙ ap (λ above. events_after above parent) c.in-None.ensures.none.1,
    )
