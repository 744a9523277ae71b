-- The tree of a document as a pure value, in which texts are lists of characters.
use Rattle.std.specs.Prelude.{ℕ, List, [], ◌∷◌, ◌++◌, Bool, true, false, Option, None}
-- an attribute is a pair: its name and its value
pub use Rattle.html_names_core.specs.Texts.{TextPair}
pub use Rattle.html_dom_tree.specs.Tags.{TagView, TagView-discrete, starts, ends}
use Rattle.html_dom_tree.specs.{Attributes.{with_set}, Frames.{HtmlFrameView}}

-- an element without its children
pub record Head : Type 0 where
  pub name : List ℕ
  pub attrs : List TextPair
  pub css : List TextPair
  pub parent : Option ℕ
  pub span : ℕ
  pub pre_span : Bool

mutual
  pub data NodeView : Type 0 where
    tag_node : TagView → NodeView
    text_node : (content : List ℕ) (span : ℕ) → NodeView
    element_node : (head : Head) (children : NodesView) → NodeView
    frame_node : HtmlFrameView → NodeView
    deriving Discrete as NodeView-discrete

  pub data NodesView : Type 0 where
    none : NodesView
    node : NodeView → NodesView → NodesView
    deriving Discrete as NodesView-discrete

-- an element and its children
abbrev pub ElementView : Type 0
ElementView = Head × NodesView

-- an element with nothing but these, without its children
abbrev pub plain_head : (name : List ℕ) (attrs : List TextPair) (span : ℕ) → Head
plain_head name attrs span =
    record { name = name; attrs = attrs; css = []; parent = None; span = span; pre_span = false }

-- an element of that name, without attributes, css, children or parent
abbrev pub new_element : List ℕ → ElementView
new_element name =
    (record { name = name; attrs = []; css = []; parent = None; span = 0; pre_span = false }, none)

-- an element with a pair as its last attribute
abbrev pub with_pair : TextPair → ElementView → ElementView
with_pair pair e = (record e.0 { attrs = e.0.attrs ++ pair ∷ [] }, e.1)

-- an element with that value in its first attribute of that name, or with the pair as its last
abbrev pub with_set_pair : TextPair → ElementView → ElementView
with_set_pair pair e = (record e.0 { attrs = with_set e.0.attrs pair }, e.1)

-- nodes with one more at the end
abbrev pub with_last : NodesView → NodeView → NodesView
with_last none n = node n none
with_last (node m ms) n = node m (with_last ms n)

-- an element with a node as its last child
abbrev pub with_node : NodeView → ElementView → ElementView
with_node n e = (e.0, with_last e.1 n)

abbrev pub is_tag : NodeView → Bool
is_tag (tag_node t) = true
is_tag (text_node s span) = false
is_tag (element_node h ns) = false
is_tag (frame_node f) = false

-- the span of a node, 0 for a tag
abbrev pub node_span : NodeView → ℕ
node_span (tag_node t) = 0
node_span (text_node s span) = span
node_span (element_node h ns) = h.span
node_span (frame_node f) = f.span
