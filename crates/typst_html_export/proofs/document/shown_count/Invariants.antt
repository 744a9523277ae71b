use Rattle.std.proofs.Common.{◌≡◌, ◌+◌, ◌≤◌, drop}
use Rattle.html_dom_tree.specs.Views.{nodes_view}
use Rattle.typst_html_export.specs.Assembled.{shown_count}
use Rattle.typst_html_export.proofs.document.shown_count.Given as goal

abbrev pub invariant-loop-node : goal.invariant-loop-node
invariant-loop-node l = record {
  counted : l.count + shown_count (nodes_view (drop l.node-index l.nodes))
      ≡ shown_count (nodes_view l.nodes);
  below : l.count ≤ l.node-index;
}
