-- A node that takes the place of the box or block in which it stands alone (this project's rule):
-- its own css determines how it is displayed, instead of an element around it (CSS Display 3).
use Rattle.std.specs.Prelude.{ℕ, Bool, true, false, ◌&&◌, List, [], ◌∷◌, codes, chars, bytes_eq, map, if◌then◌else◌, Option, Some, None}
use Rattle.html_names_core.specs.{Displays.{default_display}, Texts.{TextPair}, declared.property.Display.{Display}}
use Rattle.html_names_core.specs.declared.property.Display.TheVariants as display
use Rattle.html_values_css.specs.Properties.{with_property, without}
use Rattle.html_dom_tree.specs.Attributes.{first}
use Rattle.html_dom_tree.specs.Tree.{Head, NodeView, tag_node, text_node, element_node, frame_node, NodesView, none, node, is_tag}
use Rattle.html_flow_convert.specs.{Nodes.{made_head}, declared.lone.DisplayChange.{DisplayChange}}
use Rattle.html_flow_convert.specs.declared.lone.DisplayChange.TheVariants.{Removed, SetTo}

-- nodes as a list
unfoldable pub node_list : NodesView → List NodeView
node_list none = []
node_list (node n ns) = n ∷ node_list ns

abbrev pub are_tags : NodesView → Bool
are_tags none = true
are_tags (node n ns) = is_tag n && are_tags ns

-- the node, if it is an element or a frame
abbrev pub lone_alone : NodeView → Option NodeView
lone_alone (tag_node t) = None
lone_alone (text_node s span) = None
lone_alone (element_node h ns) = Some (element_node h ns)
lone_alone (frame_node f) = Some (frame_node f)

-- the only element or frame between tags at both ends
unfoldable pub lone_node : NodesView → Option NodeView
lone_node none = None
lone_node (node n ns) =
    if is_tag n then lone_node ns else (if are_tags ns then lone_alone n else None)

-- a change of `display` in css
pub data DisplayChangeView : Type 0 where
  removed : DisplayChangeView
  set_to : (value : List ℕ) → DisplayChangeView

abbrev pub change_view : DisplayChange → DisplayChangeView
change_view Removed = removed
change_view (SetTo value) = set_to (chars value.now)

abbrev pub css_with_display : DisplayChangeView → List TextPair → List TextPair
css_with_display removed css = without css (codes "display")
css_with_display (set_to value) css = with_property css (codes "display") value

abbrev pub node_with_display : DisplayChangeView → NodeView → NodeView
node_with_display change (tag_node t) = tag_node t
node_with_display change (text_node s span) = text_node s span
node_with_display change (element_node h ns) =
    element_node (record h { css = css_with_display change h.css }) ns
node_with_display change (frame_node f) = frame_node (record f { css = css_with_display change f.css })

abbrev pub is_math : Head → Bool
is_math h = bytes_eq h.name (codes "math")

abbrev pub is_block_value : Option (List ℕ) → Bool
is_block_value None = false
is_block_value (Some value) = bytes_eq value (codes "block")

-- whether the first attribute `display` is `block`
abbrev pub is_shown_as_block : Head → Bool
is_shown_as_block h = is_block_value (first h.attrs (codes "display"))

-- the change for a lone node of a box
abbrev pub box_change : NodeView → DisplayChangeView
box_change (tag_node t) = removed
box_change (text_node s span) = removed
box_change (element_node h ns) =
    if is_math h && is_shown_as_block h then set_to (codes "inline math") else removed
box_change (frame_node f) = removed

-- the change for a lone element of a block, by its default display; none if the element can't take
-- the block's place
abbrev pub change_by_display : Option Display → Option DisplayChangeView
change_by_display None = Some (set_to (codes "block"))
change_by_display (Some display.None) = Some removed
change_by_display (Some display.Block) = Some removed
change_by_display (Some display.Table) = Some removed
change_by_display (Some display.ListItem) = Some removed
change_by_display (Some display.Contents) = Some removed
change_by_display (Some display.Inline) = Some (set_to (codes "block"))
change_by_display (Some display.InlineBlock) = Some (set_to (codes "block"))
change_by_display _ = None

-- the change for a lone node of a block, if it can take the block's place
abbrev pub block_change : NodeView → Option DisplayChangeView
block_change (tag_node t) = None
block_change (text_node s span) = None
block_change (element_node h ns) =
    if is_math h
    then (if is_shown_as_block h then Some removed else Some (set_to (codes "block math")))
    else change_by_display (default_display h.name)
block_change (frame_node f) = Some (set_to (codes "block"))

-- the nodes with the lone one changed; without such a change, an element that holds all of them
abbrev pub changed_or_in : Head → Option DisplayChangeView → NodesView → List NodeView
changed_or_in h None ns = element_node h ns ∷ []
changed_or_in h (Some change) ns = map (node_with_display change) (node_list ns)

abbrev pub box_change_of : Option NodeView → Option DisplayChangeView
box_change_of None = None
box_change_of (Some n) = Some (box_change n)

abbrev pub block_change_of : Option NodeView → Option DisplayChangeView
block_change_of None = None
block_change_of (Some n) = block_change n

-- the element for a box or a block in which no node can take its place
abbrev pub box_head : (span : ℕ) → Head
box_head span =
    made_head (codes "span") ((codes "display", codes "inline-block") ∷ []) span

abbrev pub block_head : (span : ℕ) → Head
block_head span = made_head (codes "div") [] span

-- the nodes of a box and of a block, from those of their bodies
abbrev pub box_nodes : (span : ℕ) → NodesView → List NodeView
box_nodes span ns = changed_or_in (box_head span) (box_change_of (lone_node ns)) ns

abbrev pub block_nodes : (span : ℕ) → NodesView → List NodeView
block_nodes span ns = changed_or_in (block_head span) (block_change_of (lone_node ns)) ns
