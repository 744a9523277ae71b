use Rattle.std.proofs.{Common.{ap}, lemmas.Result.{on_ok_weaker}}
use Rattle.html_dom_tree.specs.Views.{element_view, nodes_view}
use Rattle.html_page_nesting.proofs.Walks.{tree_taken}
use Rattle.html_page_nesting.proofs.walk.pass_tree.Goals as goal

pub returns : goal.returns
returns g c =
    let made = g.S.MisnestedSink.made_with in
    let passed = c.in_ok-inside.ensures in
    on_ok_weaker c.pass_nodes.result
    (tree_taken (element_view c.args.root.now) (made c.args.reports.now.sink)
    (made c.pass_root.new.self.sink) (made c.pass_nodes.new.reports.sink) c.in_ok-inside.inside
    (nodes_view c.deref.result.now) passed.taken passed.inside (ap nodes_view c.deref.ensures.value))
    c.pass_nodes.ensures
