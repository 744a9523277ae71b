use Rattle.std.proofs.Common.{[], length, arith, ap, ◌∙◌}
use Rattle.html_dom_tree.specs.Views.{element_view, nodes_view}
use Rattle.html_dom_walk.specs.{Events.{events_of}, Walks.{event_of, events_left, path_of}}
use Rattle.html_page_findings.proofs.Walks.{comes_ahead, root_taken, turn_taken}
use Rattle.html_page_findings.specs.{PlacedTexts.{document_placed}, WantedTexts.{kind_of}}
use Rattle.html_page_findings.proofs.walk.pass_tree.Goals as goal

pub loop-next-init : goal.loop-next-init
loop-next-init g c =
    let walk = c.over-walk in
    root_taken (kind_of c.args.wanted) (g.S.TextSink.made_with c.args.sink.now)
    (element_view c.args.root.now) (path_of walk.result) (events_left walk.result) walk.ensures.path
    (walk.ensures.events ∙ ap (λ ns. events_of [] 0 (nodes_view ns) []) c.deref.ensures.value)

pub loop-next-preserved : goal.loop-next-preserved
loop-next-preserved g c =
    let made = g.S.TextSink.made_with in
    let w = c.loop-next.walk in
    let kind = kind_of c.args.wanted in
    turn_taken kind (made c.args.sink.now) (made c.loop-next.sink) (made c.pass_visit.new.sink)
    (document_placed kind (element_view c.args.root.now)) (path_of w) (event_of c.in-Some.visit)
    (events_left w) _ (rw c.in-Some.is at c.loop-next.invariant)
    c.in_ok-pass_visit.ensures.taken
    (comes_ahead _ _ _ _ c.in_ok-next.ensures.comes ∙ c.in_ok-pass_visit.ensures.left)

pub loop-next-smaller : goal.loop-next-smaller
loop-next-smaller g c =
    let comes = comes_ahead _ _ _ _ c.in_ok-next.ensures.comes in
    rw c.in-Some.is (omega (arith, c.in_ok-pass_visit.ensures.fewer, ap length comes))

pub returns : goal.returns
returns g c = rw c.in_default.is at c.loop-next.invariant
