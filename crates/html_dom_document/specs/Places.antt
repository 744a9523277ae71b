-- Positions of start tags, and destinations of links (this project's rules, after typst-html).
use Rattle.std.specs.List.{list_any}
use Rattle.std.specs.Prelude.{ℕ, List, [], ◌∷◌, ◌++◌, Bool, false, ◌==◌, ◌||◌, if◌then◌else◌, codes, bytes_eq, Option, Some, None}
use Rattle.html_dom_tree.specs.Frames.{PointView, FrameView, frame, FrameItemsView, no_frame_items, placed_item, FrameItemView, tag_item, group_item, link_item, other_item}
use Rattle.html_dom_tree.specs.Tree.{TagView, starts, ends, Head, NodeView, tag_node, text_node, element_node, frame_node, NodesView, none, node}
use Rattle.html_dom_document.specs.DomIndices.{◌then◌, dom_index}

-- a path of child indices, and a point if the path leads to a frame
pub record PositionView : Type 0 where
  pub path : List ℕ
  pub point : Option PointView

-- a start tag and its position
pub record PlacedTagView : Type 0 where
  pub location : ℕ
  pub dest : Option ℕ
  pub position : PositionView

-- an element that is named `html`
abbrev pub is_named_html : Head → Bool
is_named_html h = bytes_eq h.name (codes "html")

-- the path of an element's children, without `html` elements
abbrev pub children_path : Head → (path : List ℕ) → (index : ℕ) → List ℕ
children_path h path index = if is_named_html h then path else path ++ index ∷ []

-- what is recorded of a tag at a position: a start tag
abbrev pub tag_places : TagView → PositionView → List PlacedTagView
tag_places (starts location label dest) position =
    record { location = location; dest = dest; position = position } ∷ []
tag_places (ends location) position = []

-- the start tags in a frame with that path, in groups too, each with its own point
unfoldable mutual
  pub frame_places : (path : List ℕ) → FrameView → List PlacedTagView
  frame_places path (frame picture items) = items_places path items

  pub items_places : (path : List ℕ) → FrameItemsView → List PlacedTagView
  items_places path no_frame_items = []
  items_places path (placed_item point x rest) = item_places path point x ++ items_places path rest

  pub item_places : (path : List ℕ) → PointView → FrameItemView → List PlacedTagView
  item_places path point (tag_item t) = tag_places t (record { path = path; point = Some point })
  item_places path point (group_item f) = frame_places path f
  item_places path point (link_item link) = []
  item_places path point other_item = []

-- the start tags in a node with that index, under that path, in document order
unfoldable mutual
  pub node_places : (path : List ℕ) → (index : ℕ) → NodeView → List PlacedTagView
  node_places path index (tag_node t) =
      tag_places t (record { path = path ++ index ∷ []; point = None })
  node_places path index (text_node s span) = []
  node_places path index (element_node h children) =
      nodes_places (children_path h path index) none children
  node_places path index (frame_node f) = frame_places (path ++ index ∷ []) f.inner

  -- the start tags in nodes that follow others
  pub nodes_places : (path : List ℕ) → (before : NodesView) → NodesView → List PlacedTagView
  nodes_places path before none = []
  nodes_places path before (node n ns) =
      node_places path (dom_index before n) n ++ nodes_places path (before then node n none) ns

-- all start tags of the nodes of a document
abbrev pub document_places : NodesView → List PlacedTagView
document_places ns = nodes_places [] none ns

-- the first recorded position of a location
abbrev pub first_position : List PlacedTagView → (location : ℕ) → Option PositionView
first_position [] location = None
first_position (p ∷ ps) location =
    if p.location == location then Some p.position else first_position ps location

-- whether a link leads to a location
abbrev pub leads_to : Option ℕ → (location : ℕ) → Bool
leads_to None location = false
leads_to (Some dest) location = dest == location

-- whether a start tag links to a location
abbrev pub is_destination : List PlacedTagView → (location : ℕ) → Bool
is_destination ps location = list_any (λ p. leads_to p.dest location) ps

abbrev pub link_targets : Option ℕ → List ℕ
link_targets None = []
link_targets (Some dest) = dest ∷ []

-- the destinations of links in a frame
unfoldable mutual
  pub frame_links : FrameView → List ℕ
  frame_links (frame picture items) = items_links items

  pub items_links : FrameItemsView → List ℕ
  items_links no_frame_items = []
  items_links (placed_item point x rest) = item_links x ++ items_links rest

  pub item_links : FrameItemView → List ℕ
  item_links (tag_item t) = []
  item_links (group_item f) = frame_links f
  item_links (link_item link) = link_targets link
  item_links other_item = []

-- the destinations of links in frames of a tree
unfoldable mutual
  pub node_links : NodeView → List ℕ
  node_links (tag_node t) = []
  node_links (text_node s span) = []
  node_links (element_node h children) = nodes_links children
  node_links (frame_node f) = frame_links f.inner

  pub nodes_links : NodesView → List ℕ
  nodes_links none = []
  nodes_links (node n ns) = node_links n ++ nodes_links ns

abbrev pub is_among : List ℕ → (location : ℕ) → Bool
is_among locations location = list_any (λ l. l == location) locations

-- whether a link in a frame leads to a location
abbrev pub is_frame_target : NodesView → (location : ℕ) → Bool
is_frame_target ns location = is_among (nodes_links ns) location

-- whether a start tag or a link in a frame leads to a location
abbrev pub is_link_target : NodesView → (location : ℕ) → Bool
is_link_target ns location = is_destination (document_places ns) location || is_frame_target ns location
