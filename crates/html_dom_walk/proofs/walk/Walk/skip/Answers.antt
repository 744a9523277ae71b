use Rattle.std.proofs.{Common.{◌≡◌, [], ap, sym, ◌∙◌, arith, drop, length, reverse}, Math.Seq.{drop-nil}}
use Rattle.html_dom_tree.specs.Views.{nodes_view}
use Rattle.html_dom_walk.proofs.{Events.{none_next}, Skipping.{no_more, past_nodes, skipped_to}}
use Rattle.html_dom_walk.specs.Events.{events_of, from_end}
use Rattle.html_dom_walk.specs.Walks.{above_view, back, events_after, events_left, next_in, parent_in, siblings_left}
use Rattle.html_dom_walk.specs.declared.walk.Walk.{Walk}
use Rattle.html_dom_walk.proofs.walk.Walk.skip.Goals as goal

left_is : (w : Walk) → let b = back w.place in
    siblings_left w.place.begun b [] (events_after (above_view w.above) (parent_in w.place.begun b))
    ≡ from_end 0 (events_left w)
left_is w =
    let parent = parent_in w.place.begun (back w.place) in
    let next = next_in w.place.begun (back w.place) in
    let after = events_after (above_view w.above) parent in
    ap (λ ns. events_of (reverse parent) next (nodes_view ns) after) (drop-nil next)
    ∙ none_next (reverse parent) next after
    ∙ sym (past_nodes 0 (reverse parent) next (nodes_view (drop next w.siblings.now)) after
    ∙ skipped_to (above_view w.above) parent)

pub returns-clause-left : goal.returns-clause-left
returns-clause-left c = left_is c.args.self.now

pub returns-clause-fewer : goal.returns-clause-fewer
returns-clause-fewer c =
    let w = c.args.self.now in
    omega (arith, ap length (left_is w), no_more 0 (events_left w))
