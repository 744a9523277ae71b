-- Trees whose css is written into `style` attributes (CSS Style Attributes, section 3).
use Rattle.std.specs.Prelude.{ℕ, List, [], ◌∷◌, ◌++◌, codes, Option, Some, None}
use Rattle.html_values_css.specs.Properties.{inline_text}
use Rattle.html_dom_tree.specs.Attributes.{first, with_value}
use Rattle.html_dom_tree.specs.Tree.{TextPair, Head, NodeView, tag_node, text_node, element_node, frame_node, NodesView, none, node, ElementView}

-- a text before a value, with `; ` between unless the value is empty
abbrev pub before_value : (text value : List ℕ) → List ℕ
before_value text [] = text
before_value text (c ∷ cs) = text ++ codes "; " ++ (c ∷ cs)

-- attributes with a text before the value of the first `style`, or else with a last attribute
-- `style`
abbrev pub attrs_with_style :
    (text : List ℕ) (attrs : List TextPair) (value : Option (List ℕ)) → List TextPair
attrs_with_style text attrs (Some value) =
    with_value attrs (codes "style") (before_value text value)
attrs_with_style text attrs None = attrs ++ (codes "style", text) ∷ []

-- attributes with css in them; without css they stay
abbrev pub styled_attrs : (css attrs : List TextPair) → List TextPair
styled_attrs [] attrs = attrs
styled_attrs (p ∷ ps) attrs =
    attrs_with_style (inline_text (p ∷ ps)) attrs (first attrs (codes "style"))

abbrev pub head_with_style : Head → Head
head_with_style h = record h { attrs = styled_attrs h.css h.attrs }

-- trees in which each element, at any depth, has its css in `style`, and nothing else changes
unfoldable mutual
  pub styled_node : NodeView → NodeView
  styled_node (tag_node t) = tag_node t
  styled_node (text_node s span) = text_node s span
  styled_node (element_node h ns) = element_node (head_with_style h) (styled_nodes ns)
  styled_node (frame_node f) = frame_node f

  pub styled_nodes : NodesView → NodesView
  styled_nodes none = none
  styled_nodes (node n ns) = node (styled_node n) (styled_nodes ns)

abbrev pub styled_element : ElementView → ElementView
styled_element e = (head_with_style e.0, styled_nodes e.1)
