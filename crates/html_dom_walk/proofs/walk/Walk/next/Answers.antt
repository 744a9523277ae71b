use Rattle.std.proofs.Common.{◌≡◌, ℕ, drop, reverse, ap, sym, ◌∙◌, arith}
use Rattle.html_dom_tree.specs.{FrameViews.{html_frame_view}, Views.{head_of, nodes_view, tag_view}}
use Rattle.html_names_core.specs.Texts.{text_view}
use Rattle.html_dom_walk.proofs.{Events.{element_next, frame_next, tag_next, text_next}, Turning.{entered_is, passed_is}}
use Rattle.html_dom_walk.specs.Events.{enter, events_of, frame, tag, text}
use Rattle.html_dom_walk.specs.{Walks.{above_view, back, events_after, events_left, next_in, parent_in}, declared.walk.Walk.{Walk}}
use Rattle.html_dom_walk.proofs.walk.Walk.next.Goals as goal

at_index : (w : Walk) (index : ℕ) → index ≡ next_in w.place.begun (back w.place) →
    let parent = parent_in w.place.begun (back w.place) in events_left w
    ≡ events_of (reverse parent) index (nodes_view (drop index w.siblings.now))
    (events_after (above_view w.above) parent)
at_index w index is =
    let parent = parent_in w.place.begun (back w.place) in
    ap (λ i. events_of (reverse parent) i (nodes_view (drop i w.siblings.now))
    (events_after (above_view w.above) parent)) (sym is)

pub returns-in_ok-go_to-in-Tag-clause-comes : goal.returns-in_ok-go_to-in-Tag-clause-comes
returns-in_ok-go_to-in-Tag-clause-comes c =
    let w = c.args.self.now in
    let above = above_view w.above in
    let parent = parent_in w.place.begun (back w.place) in
    let index = c.next-index.result in
    at_index w index (grind arith)
    ∙ (tag_next (reverse parent) w.siblings.now index c.in-Some.node.now (events_after above parent)
    (grind arith) c.in-Some.ensures.lookup.1 c.in-Tag.tag c.in-Tag.is
    ∙ passed_is parent index w.siblings.now above (tag (tag_view c.in-Tag.tag)) c.go_to.new.self
    c.in_ok-go_to-in-Tag.ensures.begun c.in_ok-go_to-in-Tag.ensures.path)

pub returns-in_ok-go_to-in-Text-clause-comes : goal.returns-in_ok-go_to-in-Text-clause-comes
returns-in_ok-go_to-in-Text-clause-comes c =
    let w = c.args.self.now in
    let above = above_view w.above in
    let parent = parent_in w.place.begun (back w.place) in
    let index = c.next-index.result in
    at_index w index (grind arith)
    ∙ (text_next (reverse parent) w.siblings.now index c.in-Some.node.now
    (events_after above parent) (grind arith) c.in-Some.ensures.lookup.1 c.in-Text.text
    c.in-Text.span c.in-Text.is
    ∙ passed_is parent index w.siblings.now above (text (text_view c.in-Text.text) c.in-Text.span.0)
    c.go_to-in-Text.new.self c.in_ok-go_to-in-Text.ensures.begun
    c.in_ok-go_to-in-Text.ensures.path)

pub returns-in_ok-go_to-in-Frame-clause-comes : goal.returns-in_ok-go_to-in-Frame-clause-comes
returns-in_ok-go_to-in-Frame-clause-comes c =
    let w = c.args.self.now in
    let above = above_view w.above in
    let parent = parent_in w.place.begun (back w.place) in
    let index = c.next-index.result in
    at_index w index (grind arith)
    ∙ (frame_next (reverse parent) w.siblings.now index c.in-Some.node.now
    (events_after above parent) (grind arith) c.in-Some.ensures.lookup.1 c.in-Frame.frame
    c.in-Frame.is
    ∙ passed_is parent index w.siblings.now above (frame (html_frame_view c.in-Frame.frame))
    c.go_to-in-Frame.new.self c.in_ok-go_to-in-Frame.ensures.begun
    c.in_ok-go_to-in-Frame.ensures.path)

pub returns-in_ok-enter-in-Element-clause-comes : goal.returns-in_ok-enter-in-Element-clause-comes
returns-in_ok-enter-in-Element-clause-comes c =
    let w = c.args.self.now in
    let above = above_view w.above in
    let parent = parent_in w.place.begun (back w.place) in
    let index = c.next-index.result in
    let e = c.in-Element.element in
    let entered = c.in_ok-enter-in-Element.ensures in
    at_index w index (grind arith)
    ∙ (element_next (reverse parent) w.siblings.now index c.in-Some.node.now
    (events_after above parent) (grind arith) c.in-Some.ensures.lookup.1 e c.in-Element.is
    ∙ entered_is parent index w.siblings.now above (enter (head_of e) (nodes_view e.children.items))
    c.enter.new.self e.children.items entered.begun entered.path entered.above entered.siblings)
