use Rattle.std.proofs.Common.{◌≡◌, map, take}
use Rattle.html_dom_tree.specs.Views.{node_view}
use Rattle.html_dom_document.proofs.output.HtmlOutput.try_clone.Given as goal

abbrev pub invariant-loop-node : goal.invariant-loop-node
invariant-loop-node l = map node_view l.nodes.items ≡ map node_view (take l.node-index l.node-items)
