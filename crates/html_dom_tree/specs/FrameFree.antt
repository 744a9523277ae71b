-- Trees without frames.
use Rattle.html_dom_tree.specs.Tree.{NodeView, tag_node, text_node, element_node, frame_node, NodesView, none, node, ElementView}

-- a node without a frame at any depth
unfoldable mutual
  pub NodeIsFrameFree : NodeView → Type 0
  NodeIsFrameFree (tag_node t) = Unit {0}
  NodeIsFrameFree (text_node s span) = Unit {0}
  NodeIsFrameFree (element_node h kids) = NodesAreFrameFree kids
  NodeIsFrameFree (frame_node b) = ⊥

  pub NodesAreFrameFree : NodesView → Type 0
  NodesAreFrameFree none = Unit {0}
  NodesAreFrameFree (node n ns) = NodeIsFrameFree n × NodesAreFrameFree ns

abbrev pub ElementIsFrameFree : ElementView → Type 0
ElementIsFrameFree e = NodesAreFrameFree e.1
