-- The pure values of tags, points and frames.
use Rattle.std.specs.{Prelude.{ℕ, List, [], ◌∷◌, map, Option, option_map, String}, declared.alloc.Global.{Global}}
use Rattle.html_dom_tree.specs.Frames.{PointView, FrameView, frame, FrameItemsView, no_frame_items, placed_item, FrameItemView, tag_item, group_item, link_item, other_item, HtmlFrameView}
use Rattle.html_dom_tree.specs.Tags.{TagView, starts, ends}
use Rattle.html_dom_tree.specs.declared.frame.{Frame.{Frame, Frame-F}, FrameItem.{FrameItem, FrameItem-F, fold-FrameItem}}
use Rattle.html_dom_tree.specs.declared.{frame.HtmlFrame.{HtmlFrame}, frame.Point.{Point}, introspection.Tag.{Tag}}
use Rattle.html_dom_tree.specs.declared.introspection.Tag.TheVariants.{Start, End}
use Rattle.html_names_core.specs.Texts.{text_view}

abbrev pub optional_text_view : Option (String Global) → Option (List ℕ)
optional_text_view = option_map text_view

abbrev pub tag_view : Tag → TagView
tag_view (Start location label dest) =
    starts location.0 (optional_text_view label) (option_map (λ l. l.0) dest)
tag_view (End location) = ends location.0

abbrev pub point_view : Point → PointView
point_view p = (p.x, p.y)

abbrev pub anchor_view : Point × String Global → PointView × List ℕ
anchor_view a = (point_view a.0, text_view a.1)

-- the items of a frame, from their positions and views
abbrev pub frame_items_of : List (Point × FrameItemView) → FrameItemsView
frame_items_of [] = no_frame_items
frame_items_of (x ∷ xs) = placed_item (point_view x.0) x.1 (frame_items_of xs)

abbrev pub frame_item_step : FrameItem-F FrameItemView FrameView → FrameItemView
frame_item_step (FrameItem-F.Tag t) = tag_item (tag_view t)
frame_item_step (FrameItem-F.Group f) = group_item f
frame_item_step (FrameItem-F.Link l) = link_item (option_map (λ d. d.0) l)
frame_item_step FrameItem-F.Other = other_item

abbrev pub frame_step : Frame-F FrameItemView FrameView → FrameView
frame_step f = frame f.picture (frame_items_of f.items.items)

abbrev pub frame_item_view : FrameItem → FrameItemView
frame_item_view = fold-FrameItem FrameItemView FrameView frame_item_step frame_step

abbrev pub positioned_view : Point × FrameItem → Point × FrameItemView
positioned_view x = (x.0, frame_item_view x.1)

abbrev pub frame_items_view : List (Point × FrameItem) → FrameItemsView
frame_items_view xs = frame_items_of (map positioned_view xs)

abbrev pub frame_view : Frame → FrameView
frame_view f = frame f.picture (frame_items_view f.items.items)

abbrev pub anchors_view : List (Point × String Global) → List (PointView × List ℕ)
anchors_view = map anchor_view

abbrev pub html_frame_view : HtmlFrame → HtmlFrameView
html_frame_view f = record {
  inner = frame_view f.inner;
  text_size = f.text_size;
  id = optional_text_view f.id;
  css = f.css;
  anchors = anchors_view f.anchors.items;
  span = f.span.0;
}
