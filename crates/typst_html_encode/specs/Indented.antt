-- The tree that pretty text reads back as: the tree with a text at each indent, and with one text
-- for a raw text that is written on lines of its own.
use Rattle.std.specs.Prelude.{◌≡◌, ℕ, Bool, true, false, ◌&&◌, ◌++◌, if◌then◌else◌, codes}
use Rattle.html_names_core.specs.Kinds.{is_raw}
use Rattle.html_dom_tree.specs.Tree.{Head, NodeView, tag_node, text_node, element_node, frame_node, NodesView, none, node, ElementView}
use Rattle.html_text.specs.ClosingTags.{holds_closing}
use Rattle.typst_html_encode.specs.Content.{content_kind, by_kind}
use Rattle.typst_html_encode.specs.Layout.{indent, is_pretty_inside, deeper, margin_inside, has_indent, due_after, is_by_lines, lines_text}
use Rattle.typst_html_encode.specs.{Text.{nodes_raw_text, ends_at_once, root_margin, pretty_options}, declared.layout.Margin.{Margin}}

abbrev pub with_indent : Bool → (level : ℕ) → NodesView → NodesView
with_indent b level ns = if b then node (text_node (indent level) 0) ns else ns

abbrev pub raw_layout : Margin → Head → NodesView → NodesView
raw_layout margin h ns =
    if margin.pretty && is_by_lines h then node
    (text_node (lines_text margin.level h.name (nodes_raw_text ns)) 0) none else ns

unfoldable mutual
  -- a node at its margin
  pub node_layout : Margin → NodeView → NodeView
  node_layout margin (tag_node t) = tag_node t
  node_layout margin (text_node s span) = text_node s span
  node_layout margin (element_node h ns) = element_node h
      (if ends_at_once h then ns else by_kind (content_kind h.name)
      (raw_layout margin h ns) ns (nodes_layout true (margin_inside margin h ns) ns))
  node_layout margin (frame_node b) = frame_node b

  -- the children of an element at that margin
  pub nodes_layout : (due : Bool) → Margin → NodesView → NodesView
  nodes_layout due margin none = with_indent margin.pretty margin.level none
  nodes_layout due margin (node n ns) =
      with_indent (margin.pretty && has_indent due n) (deeper margin).level
      (node (node_layout (deeper margin) n) (nodes_layout (due_after due n) margin ns))

abbrev pub content_layout : Margin → Head → NodesView → NodesView
content_layout margin h ns = if ends_at_once h then ns else by_kind (content_kind h.name)
    (raw_layout margin h ns) ns (nodes_layout true (margin_inside margin h ns) ns)

-- the tree of a root, as it is laid out by pretty writing
abbrev pub element_layout : ElementView → ElementView
element_layout e = (e.0, content_layout (root_margin pretty_options) e.0 e.1)

-- a raw text on lines of its own holds no closing tag even if a line feed follows it: it does not
-- end in a closing tag that lacks its last character
abbrev pub RawEndsWell : (pretty : Bool) → Head → NodesView → Type 0
RawEndsWell pretty h ns = (pretty && is_by_lines h) ≡ true →
    holds_closing h.name (nodes_raw_text ns ++ codes "\n") ≡ false

-- each raw text at any depth ends so
unfoldable mutual
  pub NodeEndsWell : (pretty : Bool) → NodeView → Type 0
  NodeEndsWell pretty (tag_node t) = Unit {0}
  NodeEndsWell pretty (text_node s span) = Unit {0}
  NodeEndsWell pretty (element_node h ns) = (is_raw h.name ≡ true → RawEndsWell pretty h ns)
      × NodesEndWell (pretty && is_pretty_inside h ns) ns
  NodeEndsWell pretty (frame_node b) = Unit {0}

  pub NodesEndWell : (pretty : Bool) → NodesView → Type 0
  NodesEndWell pretty none = Unit {0}
  NodesEndWell pretty (node n ns) = NodeEndsWell pretty n × NodesEndWell pretty ns

abbrev pub ElementEndsWell : (pretty : Bool) → ElementView → Type 0
ElementEndsWell pretty e = NodeEndsWell pretty (element_node e.0 e.1)
