-- Indents are not visible: each touches a border.
use Rattle.std.specs.Prelude.{◌≡◌, ℕ, true, false, Some}
use Rattle.html_names_core.specs.Kinds.{is_raw}
use Rattle.html_dom_tree.specs.PlainTree.{Plains, nodes_normal}
use Rattle.html_dom_tree.specs.Tree.{Head, tag_node, text_node, element_node, frame_node, NodesView, none, node, ElementView}
pub use Rattle.html_dom_shown.specs.Bodies.{body_children, body_in}
use Rattle.html_dom_shown.specs.Collapsing.{preserves, has_border_display, plains_atoms, collapsed_pieces}
use Rattle.typst_html_encode.specs.{Indented.{content_layout, element_layout}, Layout.{allows_pretty_inside, wants_pretty_around}}

-- the element is not raw, it has a border if it has indents around or inside it, and it preserves
-- no blank if it has indents inside
abbrev pub HeadIsEdged : Head → Type 0
HeadIsEdged h =
    (is_raw h.name ≡ false)
    × (wants_pretty_around h ≡ true → has_border_display h.name ≡ true)
    × (allows_pretty_inside h.name ≡ true → (has_border_display h.name ≡ true)
    × (preserves h.name h.attrs ≡ false))

-- each element at any depth is so, and there is no frame
abbrev pub NodesAreEdged : NodesView → Type 0
NodesAreEdged none = Unit {0}
NodesAreEdged (node (tag_node t) ns) = NodesAreEdged ns
NodesAreEdged (node (text_node s span) ns) = NodesAreEdged ns
NodesAreEdged (node (element_node h kids) ns) = (HeadIsEdged h × NodesAreEdged kids)
    × NodesAreEdged ns
NodesAreEdged (node (frame_node b) ns) = ⊥

-- in the content of an element that is not raw, on any level, indents collapse
abbrev pub ContentCollapses : Type 0
ContentCollapses = (level : ℕ) (h : Head) (ns : NodesView) → is_raw h.name ≡ false →
    NodesAreEdged ns →
    collapsed_pieces (plains_atoms false (nodes_normal
    (content_layout (record { pretty = true; level = level }) h ns)))
    ≡ collapsed_pieces (plains_atoms false (nodes_normal ns))

-- in the body of a root that is not raw, indents collapse: the laid-out tree has a body that
-- collapses to the same pieces
abbrev pub BodyCollapses : Type 0
BodyCollapses = (e : ElementView) (below : NodesView) → is_raw e.0.name ≡ false →
    body_children e.1 ≡ Some below → NodesAreEdged below →
    (inside : Plains) × (body_in (nodes_normal (element_layout e).1) ≡ Some inside)
    × (collapsed_pieces (plains_atoms false inside)
    ≡ collapsed_pieces (plains_atoms false (nodes_normal below)))
