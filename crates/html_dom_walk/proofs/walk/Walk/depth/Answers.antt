use Rattle.std.proofs.Common.{sym, drop, reverse, ◌∙◌}
use Rattle.html_dom_tree.specs.Views.{nodes_view}
use Rattle.html_dom_walk.{proofs.Skipping.{ends_above, ends_later}, specs.Walks.{above_view, back, events_after, next_in, parent_in}}
use Rattle.html_dom_walk.proofs.walk.Walk.depth.Goals as goal

pub returns : goal.returns
returns c =
    let w = c.args.self.now in
    let above = above_view w.above in
    let parent = parent_in w.place.begun (back w.place) in
    let next = next_in w.place.begun (back w.place) in
    c.len.ensures
    ∙ sym (ends_later (reverse parent) next (nodes_view (drop next w.siblings.now))
    (events_after above parent) ∙ ends_above above parent)
