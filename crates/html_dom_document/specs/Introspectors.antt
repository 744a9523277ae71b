-- The data of a document's locations, as functions of a location.
use Rattle.std.specs.{BTreeMap.{BTreeMap, get}, Ordering.{nat_cmp}, Prelude.{ℕ, List, Bool, ◌||◌, Option, None, option_map, String}}
use Rattle.std.specs.declared.{alloc.Global.{Global}, cmp.Ordering.{Ordering}}
use Rattle.std.specs.BTreeSet as bag
use Rattle.html_dom_tree.specs.{FrameViews.{point_view}, Tree.{NodesView}, Views.{text_view}, declared.introspection.Location.{Location}}
use Rattle.html_dom_document.specs.Places.{PositionView, document_places, first_position, is_frame_target, is_link_target}
use Rattle.html_dom_document.specs.declared.{introspect.HtmlIntrospector.{HtmlIntrospector}, position.HtmlPosition.{HtmlPosition}}

-- for each location its position, whether links lead to it, whether links in frames do, and its
-- anchor
pub record IntrospectorView : Type 0 where
  pub position : ℕ → Option PositionView
  pub is_link_target : ℕ → Bool
  pub is_frame_target : ℕ → Bool
  pub anchor : ℕ → Option (List ℕ)

-- the data recorded from the nodes of a document
abbrev pub recorded_view : NodesView → IntrospectorView
recorded_view ns = record {
  position = first_position (document_places ns);
  is_link_target = is_link_target ns;
  is_frame_target = is_frame_target ns;
  anchor = λ location. None;
}

abbrev pub location_cmp : Location → Location → Ordering
location_cmp a b = nat_cmp a.0 b.0

abbrev pub position_view : HtmlPosition → PositionView
position_view p = record { path = p.path.items; point = option_map point_view p.point }

-- the position of a location in a map
abbrev pub position_in : BTreeMap Location HtmlPosition → (location : ℕ) → Option PositionView
position_in map location = option_map position_view (get location_cmp map (record { 0 = location }))

-- the text of a location in a map
abbrev pub location_text : BTreeMap Location (String Global) → (location : ℕ) → Option (List ℕ)
location_text map location = option_map text_view (get location_cmp map (record { 0 = location }))

-- whether a location is in a set
abbrev pub has_location : bag.BTreeSet Location → (location : ℕ) → Bool
has_location set location = bag.contains location_cmp set (record { 0 = location })

abbrev pub introspector_view : HtmlIntrospector → IntrospectorView
introspector_view i = record {
  position = position_in i.positions;
  is_link_target = λ location. has_location i.destinations location || has_location i.frame_link_targets location;
  is_frame_target = has_location i.frame_link_targets;
  anchor = location_text i.anchors;
}
