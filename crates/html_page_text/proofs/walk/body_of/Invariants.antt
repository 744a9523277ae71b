use Rattle.std.proofs.Common.{◌≡◌, drop}
use Rattle.html_dom_tree.specs.Views.{nodes_view}
use Rattle.html_dom_shown.specs.Bodies.{body_children}
use Rattle.html_page_text.specs.Unseen.{seen_nodes}
use Rattle.html_page_text.proofs.walk.body_of.Given as goal

abbrev pub invariant-loop-child : goal.invariant-loop-child
invariant-loop-child l =
    body_children (seen_nodes (nodes_view (drop l.child-index l.nodes)))
    ≡ body_children (seen_nodes (nodes_view l.nodes))
