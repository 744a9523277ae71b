-- Nodes, and the same with other heads and with elements around texts and after tags.
use Rattle.std.specs.Prelude.{ℕ, List}
use Rattle.html_dom_tree.specs.{Frames.{HtmlFrameView}, Tags.{TagView}}
use Rattle.html_dom_tree.specs.Tree.{Head, tag_node, text_node, element_node, frame_node, NodesView, none, node}

-- the elements that may come after a tag and around a text, and what may become of a head
pub record Change : Type 1 where
  pub after : Head → Type 0
  pub around : Head → List ℕ → Type 0
  pub head : Head → Head → Type 0

pub data Changed (c : Change) : NodesView → NodesView → Type 0 where
  at_end : Changed c none none
  at_tag : {t : TagView} {ns ms : NodesView} → Changed c ns ms →
      Changed c (node (tag_node t) ns) (node (tag_node t) ms)
  after_tag : {t : TagView} {h : Head} {ns ms : NodesView} → c.after h → Changed c ns ms →
      Changed c (node (tag_node t) ns) (node (tag_node t) (node (element_node h none) ms))
  at_text : {s : List ℕ} {span : ℕ} {ns ms : NodesView} → Changed c ns ms →
      Changed c (node (text_node s span) ns) (node (text_node s span) ms)
  around_text : {s : List ℕ} {span : ℕ} {h : Head} {ns ms : NodesView} → c.around h s →
      Changed c ns ms →
      Changed c (node (text_node s span) ns)
      (node (element_node h (node (text_node s span) none)) ms)
  at_element : {h g : Head} {kids new ns ms : NodesView} → c.head h g → Changed c kids new →
      Changed c ns ms → Changed c (node (element_node h kids) ns) (node (element_node g new) ms)
  at_frame : {f g : HtmlFrameView} {ns ms : NodesView} → Changed c ns ms →
      Changed c (node (frame_node f) ns) (node (frame_node g) ms)
