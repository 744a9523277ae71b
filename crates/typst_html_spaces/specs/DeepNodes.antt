-- Properties of nodes at any depth: of each element, each text, each tag and each frame.
use Rattle.std.specs.Prelude.{ℕ, Bool, true, false, List}
use Rattle.html_dom_tree.specs.{Tags.{TagView}, Tree.{Head, NodeView, tag_node, text_node, element_node, frame_node, NodesView, none, node}}

-- the properties required of an element without children or with some, of a text directly under an
-- element with or without the flag `pre_span`, of a tag, and of a frame
pub record Wanted : Type 1 where
  pub head : Head → (is_empty : Bool) → Type 0
  pub text : (pre_span : Bool) → List ℕ → Type 0
  pub tag : TagView → Type 0
  pub frame : Type 0

abbrev pub is_empty : NodesView → Bool
is_empty none = true
is_empty (node n ns) = false

abbrev mutual
  pub HoldsOf : Wanted → (pre_span : Bool) → NodeView → Type 0
  HoldsOf w pre_span (tag_node t) = w.tag t
  HoldsOf w pre_span (text_node s span) = w.text pre_span s
  HoldsOf w pre_span (element_node h ns) = w.head h (is_empty ns) × HoldsOfAll w h.pre_span ns
  HoldsOf w pre_span (frame_node f) = w.frame

  pub HoldsOfAll : Wanted → (pre_span : Bool) → NodesView → Type 0
  HoldsOfAll w pre_span none = Unit {0}
  HoldsOfAll w pre_span (node n ns) = HoldsOf w pre_span n × HoldsOfAll w pre_span ns

-- the properties required of heads and of frames alone
abbrev pub of_heads : (OfHead : Head → Type 0) (OfFrame : Type 0) → Wanted
of_heads OfHead OfFrame = record {
  head = λ h b. OfHead h;
  text = λ p s. Unit {0};
  tag = λ t. Unit {0};
  frame = OfFrame;
}

-- each head at any depth has the property, and there is no frame
abbrev pub HeadsAlone : (OfHead : Head → Type 0) → NodesView → Type 0
HeadsAlone OfHead = HoldsOfAll (of_heads OfHead ⊥) false
