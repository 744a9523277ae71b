use Rattle.std.proofs.Common.{length}
use Rattle.html_dom_tree.specs.{Taking.{Takes}, Views.{element_view}}
use Rattle.html_dom_walk.specs.Walks.{events_left, path_of}
use Rattle.html_page_findings.proofs.Walks.{ahead, all_made}
use Rattle.html_page_findings.specs.{PlacedTexts.{document_placed}, WantedTexts.{kind_of}}
use Rattle.html_page_findings.proofs.walk.pass_tree.Given as goal

abbrev pub invariant-loop-next : goal.invariant-loop-next
invariant-loop-next g l =
    let made = g.S.TextSink.made_with in
    let events = ahead l.next (path_of l.walk) (events_left l.walk) in
    Takes (made l.fn.sink) (all_made (kind_of l.wanted) (made l.sink) events)
    (document_placed (kind_of l.wanted) (element_view l.root))

abbrev pub decreases-loop-next : goal.decreases-loop-next
decreases-loop-next g l = length (ahead l.next (path_of l.walk) (events_left l.walk))
