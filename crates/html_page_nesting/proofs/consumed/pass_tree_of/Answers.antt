use Rattle.std.proofs.{Common.{refl}, lemmas.Result.{on_ok_weaker}}
use Rattle.html_dom_tree.specs.Views.{element_view, nodes_view}
use Rattle.html_page_nesting.proofs.Walks.{tree_taken}
use Rattle.html_page_nesting.proofs.consumed.pass_tree_of.Goals as goal

pub returns : goal.returns
returns g c =
    let made = g.S.MisnestedSink.made_with in
    let passed = c.in_ok-inside.ensures in
    on_ok_weaker c.pass_nodes_of.result
    (tree_taken (element_view c.args.root) (made c.args.reports.now.sink)
    (made c.pass_root.new.self.sink) (made c.pass_nodes_of.new.reports.sink) c.in_ok-inside.inside
    (nodes_view c.args.root.children.items) passed.taken passed.inside refl)
    (rw c.new-path.ensures.items at c.pass_nodes_of.ensures.taken)
