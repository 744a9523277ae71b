-- Pretty writing, by this project's rules: where indents are, and which texts are cut into lines.
use Rattle.std.specs.List.{list_any}
use Rattle.std.specs.Prelude.{ℕ, zero, suc, ◌+◌, Bool, true, false, not, ◌&&◌, ◌||◌, ◌==◌, List, [], ◌∷◌, ◌++◌, if◌then◌else◌, codes, Option, Some, None, bytes_eq}
use Rattle.std.specs.Str.Lines.{lines}
use Rattle.html_names_core.specs.{Displays.{default_display, is_tabular}, Kinds.{is_mathml, is_token, is_metadata_content}}
use Rattle.html_names_core.specs.declared.property.Display.{Display}
use Rattle.html_names_core.specs.declared.property.Display.TheVariants as display
use Rattle.html_dom_tree.specs.Attributes.{first}
use Rattle.html_dom_tree.specs.Tree.{TextPair, Head, NodeView, tag_node, text_node, element_node, frame_node, NodesView, none, node}
pub use Rattle.html_dom_shown.specs.Values.{is_text}
use Rattle.typst_html_encode.specs.declared.layout.Margin.{Margin}

-- two spaces per level
abbrev pub spaces : (level : ℕ) → List ℕ
spaces zero = []
spaces (suc level) = codes "  " ++ spaces level

unfoldable pub indent : (level : ℕ) → List ℕ
indent level = codes "\n" ++ spaces level

abbrev pub indent_where : Bool → (level : ℕ) → List ℕ
indent_where b level = if b then indent level else []

abbrev pub feed_where : Bool → List ℕ
feed_where b = if b then codes "\n" else []

-- the display is a block, a list item, a table or a part of one
abbrev pub is_of_lines : Option Display → Bool
is_of_lines None = false
is_of_lines (Some display.Block) = true
is_of_lines (Some display.ListItem) = true
is_of_lines (Some d) = is_tabular d

-- pretty writing is allowed inside the element: in MathML but for its tokens, in HTML by the
-- default display (not in `pre`), and in `head`
unfoldable pub allows_pretty_inside : List ℕ → Bool
allows_pretty_inside name = (is_mathml name && not (is_token name))
    || ((is_of_lines (default_display name) && not (bytes_eq name (codes "pre"))) || bytes_eq name
    (codes "head"))

-- the element wants lines of its own; `math` does if its first `display` is `block`
unfoldable pub wants_pretty_around : Head → Bool
wants_pretty_around h = if bytes_eq h.name (codes "math")
    then is_text (codes "block") (first h.attrs (codes "display"))
    else (is_mathml h.name || (bytes_eq h.name (codes "pre") ||
    (is_metadata_content h.name || allows_pretty_inside h.name)))

-- the node is a frame, or an element that wants lines of its own
abbrev pub node_wants_pretty : NodeView → Bool
node_wants_pretty (tag_node t) = false
node_wants_pretty (text_node s span) = false
node_wants_pretty (element_node h kids) = wants_pretty_around h
node_wants_pretty (frame_node b) = true

abbrev pub nodes_want_pretty : NodesView → Bool
nodes_want_pretty none = false
nodes_want_pretty (node n ns) = node_wants_pretty n || nodes_want_pretty ns

-- the margin of a child
abbrev pub deeper : Margin → Margin
deeper margin = record margin { level = margin.level + 1 }

-- the children are written pretty if pretty writing is on; otherwise it is off at any depth inside
unfoldable pub is_pretty_inside : Head → NodesView → Bool
is_pretty_inside h ns = allows_pretty_inside h.name && nodes_want_pretty ns

-- the margin of an element with the mode of its children
abbrev pub margin_inside : Margin → Head → NodesView → Margin
margin_inside margin h ns = record margin { pretty = margin.pretty && is_pretty_inside h ns }

-- an indent stands before the child: one is due, or the child wants lines of its own
abbrev pub has_indent : (due : Bool) → NodeView → Bool
has_indent due (tag_node t) = false
has_indent due (text_node s span) = due
has_indent due (element_node h kids) = due || wants_pretty_around h
has_indent due (frame_node b) = due

-- an indent is due before the next child, tags aside: this child wants lines of its own
abbrev pub due_after : (due : Bool) → NodeView → Bool
due_after due (tag_node t) = due
due_after due (text_node s span) = false
due_after due (element_node h kids) = wants_pretty_around h
due_after due (frame_node b) = false

-- raw text

-- a pair `type` has a value other than `text/javascript`
abbrev pub has_other_type : List TextPair → Bool
has_other_type [] = false
has_other_type (p ∷ ps) = (bytes_eq p.0 (codes "type") && not
    (bytes_eq (codes "text/javascript") p.1)) || has_other_type ps

-- the text of a raw element is on lines of its own: that of a style, and of a script without a
-- `type` other than `text/javascript`
unfoldable pub is_by_lines : Head → Bool
is_by_lines h = bytes_eq h.name (codes "style") || not (has_other_type h.attrs)

-- lines with an indent between them, and before the first if `before_first`
abbrev pub by_lines : (before_first : Bool) (indent : List ℕ) → List (List ℕ) → List ℕ
by_lines b i [] = []
by_lines b i (l ∷ ls) = (if b then i else []) ++ (l ++ by_lines true i ls)

-- the lines stay as they are: those of a script that holds a backquote, as template literals do
unfoldable pub keeps_lines : (name text : List ℕ) → Bool
keeps_lines name text = bytes_eq name (codes "script") && list_any (λ c. c == 96) text

-- the text of a raw element of that level and name, on lines of its own
unfoldable pub lines_text : (level : ℕ) → (name text : List ℕ) → List ℕ
lines_text level name s = (if keeps_lines name s then codes "\n" ++ s
    else by_lines true (indent (level + 1)) (lines s)) ++ indent level

abbrev pub raw_text : Margin → Head → List ℕ → List ℕ
raw_text margin h s = if margin.pretty && is_by_lines h then lines_text margin.level h.name s else s

-- frames

-- the text of a frame at that margin
abbrev pub frame_text : Margin → Option (List ℕ) → List ℕ
frame_text margin None = []
frame_text margin (Some s) = if margin.pretty then by_lines false (indent margin.level) (lines s)
    else s
