use Rattle.std.{proofs.Common.{◌++◌, ap, sym, ◌∙◌, append_assoc}, specs.Prelude.{None, option_map}}
use Rattle.html_dom_tree.specs.Views.{nodes_view}
use Rattle.html_dom_walk.specs.Walks.{event_of, events_left}
use Rattle.html_anchors.proofs.DeadLinks.{dead_links_along, dead_links_along_is}
use Rattle.html_anchors.specs.{DeadLinks.{dead_links_view, event_dead_links, event_dest}, LinkTargets.{live_hrefs_view}}
use Rattle.html_anchors.proofs.dead.add_nodes.Goals as goal

pub loop-walk-init : goal.loop-walk-init
loop-walk-init c =
    let hrefs = live_hrefs_view c.args.found in
    ap (λ l. dead_links_view c.args.dead.now.items ++ l)
    (ap (dead_links_along hrefs None) c.over-walk.ensures.events
    ∙ dead_links_along_is hrefs (nodes_view c.args.nodes.now))

pub loop-walk-preserved : goal.loop-walk-preserved
loop-walk-preserved c =
    let hrefs = live_hrefs_view c.args.found in
    let dest = option_map (λ l. l.0) c.loop-walk.dest in
    let old = dead_links_view c.loop-walk.dead.items in
    let e = event_of c.in-Some.visit in
    let later = events_left c.next.new.self in
    let own = event_dead_links hrefs dest e in
    let comes = rw c.in-Some.is at c.in_ok-visit.ensures.comes in
    ap (λ l. l ++ dead_links_along hrefs (option_map (λ l. l.0) c.in_ok-dest.dest) later)
    c.in_ok-dest.ensures.dead
    ∙ (ap (λ d. (old ++ own) ++ dead_links_along hrefs d later) c.in_ok-dest.ensures.dest
    ∙ (append_assoc old own (dead_links_along hrefs (event_dest e dest) later)
    ∙ (ap (λ es. old ++ dead_links_along hrefs dest es) (sym comes)
    ∙ c.loop-walk.invariant)))
