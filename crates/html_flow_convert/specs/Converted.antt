-- The nodes that items become (this project's rules).
use Rattle.std.specs.Borrow.{Bor}
use Rattle.std.specs.Prelude.{ℕ, Bool, false, ◌||◌, List, [], ◌∷◌, ◌++◌, codes, bytes_eq, if◌then◌else◌, Option, Some, None, option_map, chars}
use Rattle.html_names_core.specs.{Displays.{default_display}, Kinds.{is_raw, is_escapable_raw, shows_border}, Texts.{TextPair}}
use Rattle.html_dom_tree.specs.Frames.{new_html_frame}
use Rattle.html_dom_tree.specs.{Tree.{Head, NodeView, tag_node, text_node, element_node, frame_node, NodesView, none}, Views.{nodes_of}}
use Rattle.html_flow_convert.specs.BareSpaces.{makes_block}
use Rattle.html_flow_convert.specs.Items.{RoleView, inherits, sets, unsets, ElemHead, FrameElemView, ItemView, tag_item, element_item, space_item, text_item, hole_item, break_item, box_item, block_item, frame_item, ItemsView, no_items, item, BodyView, absent, present}
use Rattle.html_flow_convert.specs.{LoneNode.{box_nodes, block_nodes}, Nodes.{break_node}, Pieces.{text_nodes}, Protected.{protected_nodes}}
use Rattle.html_flow_convert.specs.Runs.{nodes_with_runs}
use Rattle.html_flow_convert.specs.declared.convert.{ConversionLevel.{ConversionLevel}, Whitespace.{Whitespace}}
use Rattle.html_flow_convert.specs.declared.convert.{ConversionLevel.TheVariants.{Block, Inline}, Whitespace.TheVariants.{Normal, Pre}}

-- a role, if there is one
abbrev pub RoleText : Type 0
RoleText = Option (List ℕ)

-- the role that a caller passes
abbrev pub role_text : Option (Bor (List ℕ)) → RoleText
role_text = option_map (λ role. chars role.now)

-- the role of an item in a list with that role
abbrev pub item_role : (list : RoleText) → RoleView → RoleText
item_role list inherits = list
item_role list (sets text) = Some text
item_role list unsets = None

-- whether an element takes no role and passes it on to its content, as a paragraph does
abbrev pub passes_role : (name : List ℕ) → Bool
passes_role name = bytes_eq name (codes "p")

abbrev pub role_pairs : RoleText → List TextPair
role_pairs None = []
role_pairs (Some text) = (codes "role", text) ∷ []

-- an element with its role as its last attribute
abbrev pub element_head : RoleText → ElemHead → Head
element_head role h = record {
  name = h.name;
  attrs = if passes_role h.name then h.attrs else h.attrs ++ role_pairs role;
  css = h.css;
  parent = h.parent;
  span = h.span;
  pre_span = false;
}

abbrev pub body_role : RoleText → ElemHead → RoleText
body_role role h = if passes_role h.name then role else None

-- the level of an element's body: that of a block if the element has lines of its own, by default
-- or by css
abbrev pub body_level : ElemHead → ConversionLevel
body_level h = if shows_border (default_display h.name) || makes_block h.css then Block else Inline

-- whether white space stays in an element of that name
abbrev pub is_preformatted : (name : List ℕ) → Bool
is_preformatted name = bytes_eq name (codes "pre") || is_raw name || is_escapable_raw name

abbrev pub body_whitespace : Whitespace → ElemHead → Whitespace
body_whitespace Pre h = Pre
body_whitespace Normal h = if is_preformatted h.name then Pre else Normal

abbrev pub text_item_nodes : Whitespace → List ℕ → (span : ℕ) → List NodeView
text_item_nodes Pre text span = text_node text span ∷ []
text_item_nodes Normal text span = text_nodes span text

abbrev pub break_item_node : Whitespace → (span : ℕ) → NodeView
break_item_node Pre span = text_node (10 ∷ []) span
break_item_node Normal span = break_node span

abbrev pub frame_item_node : FrameElemView → NodeView
frame_item_node f = frame_node (record (new_html_frame f.inner f.text_size f.span)
    { css = (codes "display", codes "block") ∷ [] })

-- the last step for the nodes of a list: where white space collapses, runs of blanks are protected,
-- and at block level also the spaces that would go
abbrev pub list_nodes : ConversionLevel → Whitespace → List NodeView → NodesView
list_nodes level Pre ns = nodes_of ns
list_nodes Inline Normal ns = nodes_of (nodes_with_runs ns)
list_nodes Block Normal ns = protected_nodes (nodes_of (nodes_with_runs ns))

unfoldable mutual
  pub item_nodes : Whitespace → RoleText → ItemView → List NodeView
  item_nodes whitespace role (tag_item t) = tag_node t ∷ []
  item_nodes whitespace role (element_item h body) =
      element_node (element_head role h)
      (body_nodes (body_level h) (body_whitespace whitespace h) (body_role role h) body) ∷ []
  item_nodes whitespace role (space_item span) = text_node (32 ∷ []) span ∷ []
  item_nodes whitespace role (text_item s span) = text_item_nodes whitespace s span
  item_nodes whitespace role hole_item = []
  item_nodes whitespace role (break_item span) = break_item_node whitespace span ∷ []
  item_nodes whitespace role (box_item body span) =
      box_nodes span (body_nodes Inline whitespace role body)
  item_nodes whitespace role (block_item body span) =
      block_nodes span (body_nodes Block whitespace role body)
  item_nodes whitespace role (frame_item f) = frame_item_node f ∷ []

  pub items_nodes : Whitespace → RoleText → ItemsView → List NodeView
  items_nodes whitespace role no_items = []
  items_nodes whitespace role (item i own items) =
      item_nodes whitespace (item_role role own) i ++ items_nodes whitespace role items

  pub body_nodes : ConversionLevel → Whitespace → RoleText → BodyView → NodesView
  body_nodes level whitespace role absent = none
  body_nodes level whitespace role (present items) =
      list_nodes level whitespace (items_nodes whitespace role items)

abbrev pub converted_nodes : ConversionLevel → Whitespace → RoleText → ItemsView → NodesView
converted_nodes level whitespace role items =
    list_nodes level whitespace (items_nodes whitespace role items)
