-- The first `body` among nodes.
use Rattle.std.specs.Prelude.{if◌then◌else◌, bytes_eq, codes, Option, Some, None}
use Rattle.html_dom_tree.specs.PlainTree.{Plain, words, branch, Plains, no_plains, plain}
use Rattle.html_dom_tree.specs.Tree.{tag_node, text_node, element_node, frame_node, NodesView, none, node}

-- the children of the first `body`
abbrev pub body_children : NodesView → Option NodesView
body_children none = None
body_children (node (tag_node t) ns) = body_children ns
body_children (node (text_node s span) ns) = body_children ns
body_children (node (element_node h kids) ns) = if bytes_eq h.name (codes "body") then Some kids
    else body_children ns
body_children (node (frame_node b) ns) = body_children ns

abbrev pub body_in : Plains → Option Plains
body_in no_plains = None
body_in (plain (words t) ps) = body_in ps
body_in (plain (branch name attrs kids) ps) = if bytes_eq name (codes "body") then Some kids
    else body_in ps

-- the children of a tree's first child named `body`
abbrev pub tree_body : Plain → Option Plains
tree_body (words t) = None
tree_body (branch name attrs kids) = body_in kids
