use Rattle.html_dom_tree.specs.Views.{element_view}
use Rattle.html_page_nesting.{proofs.Walks.{walk_ended}, specs.Misnested.{misnested_nodes}}
use Rattle.html_page_nesting.proofs.walk.walk_tree.Goals as goal

pub returns : goal.returns
returns g c =
    walk_ended g.S.MisnestedSink.made_with c.args.sink c.pass_tree-passed.new.reports.sink
    (misnested_nodes (element_view c.args.root.now)) c.pass_tree-passed.result c.finish.result
    (rw c.new-reports.ensures at c.pass_tree-passed.ensures) c.finish.ensures
