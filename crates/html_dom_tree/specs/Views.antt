-- The pure values of attribute lists, nodes and elements.
use Rattle.std.specs.{Prelude.{List, [], ◌∷◌, map, option_map, String}, declared.alloc.Global.{Global}}
use Rattle.html_names_core.specs.declared.html_attr.HtmlAttr.{HtmlAttr}
pub use Rattle.html_names_core.specs.Texts.{text_view}
pub use Rattle.html_dom_tree.specs.FrameViews.{optional_text_view, tag_view}
use Rattle.html_dom_tree.specs.FrameViews.{html_frame_view}
use Rattle.html_dom_tree.specs.Tree.{TextPair, Head, NodeView, tag_node, text_node, element_node, frame_node, NodesView, none, node, ElementView}
use Rattle.html_dom_tree.specs.declared.attrs.HtmlAttrs.{HtmlAttrs}
use Rattle.html_dom_tree.specs.declared.node.{HtmlElement.{HtmlElement, HtmlElement-F}, HtmlNode.{HtmlNode, HtmlNode-F, fold-HtmlNode}}

abbrev pub pair_view : HtmlAttr × String Global → TextPair
pair_view p = (p.0, text_view p.1)

abbrev pub attrs_view : HtmlAttrs → List TextPair
attrs_view a = map pair_view a.0.items

-- the nodes of a list, from their views
abbrev pub nodes_of : List NodeView → NodesView
nodes_of [] = none
nodes_of (n ∷ ns) = node n (nodes_of ns)

abbrev pub node_step : HtmlNode-F NodeView ElementView → NodeView
node_step (HtmlNode-F.Tag t) = tag_node (tag_view t)
node_step (HtmlNode-F.Text s span) = text_node (text_view s) span.0
node_step (HtmlNode-F.Element e) = element_node e.0 e.1
node_step (HtmlNode-F.Frame f) = frame_node (html_frame_view f)

-- an element without its children
abbrev pub head_of : {A B : Type 0} → HtmlElement-F A B → Head
head_of e = record {
  name = e.tag;
  attrs = attrs_view e.attrs;
  css = e.css;
  parent = option_map (λ l. l.0) e.parent;
  span = e.span.0;
  pre_span = e.pre_span;
}

abbrev pub element_step : HtmlElement-F NodeView ElementView → ElementView
element_step e = (head_of e, nodes_of e.children.items)

abbrev pub node_view : HtmlNode → NodeView
node_view = fold-HtmlNode NodeView ElementView node_step element_step

abbrev pub nodes_view : List HtmlNode → NodesView
nodes_view ns = nodes_of (map node_view ns)

abbrev pub element_view : HtmlElement → ElementView
element_view e = (head_of e, nodes_view e.children.items)
