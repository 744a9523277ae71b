-- The items that the program's values stand for.
use Rattle.std.specs.{Prelude.{List, [], ◌∷◌, map, Option, None, Some, option_map, Vec}, declared.alloc.Global.{Global}}
use Rattle.html_names_core.specs.Texts.{text_view}
use Rattle.html_dom_tree.specs.{FrameViews.{frame_view, tag_view}, Views.{attrs_view}}
use Rattle.html_flow_convert.specs.Items.{RoleView, inherits, sets, unsets, ElemHead, FrameElemView, ItemView, tag_item, element_item, space_item, text_item, hole_item, break_item, box_item, block_item, frame_item, ItemsView, no_items, item, BodyView, absent, present, ElemView}
use Rattle.html_flow_convert.specs.declared.item.{FrameElem.{FrameElem}, HtmlElem.{HtmlElem, HtmlElem-F, fold-HtmlElem}}
use Rattle.html_flow_convert.specs.declared.item.{Item.{Item, Item-F, fold-Item}, Pair.{Pair, Pair-F, fold-Pair}, Role.{Role}}
use Rattle.html_flow_convert.specs.declared.item.Role.TheVariants.{Inherit, Set, Unset}

abbrev pub role_view : Role → RoleView
role_view Inherit = inherits
role_view (Set text) = sets (text_view text)
role_view Unset = unsets

abbrev pub frame_elem_view : FrameElem → FrameElemView
frame_elem_view f = record { inner = frame_view f.frame; text_size = f.text_size; span = f.span.0 }

-- items from their views with their roles
abbrev pub items_of : List (ItemView × RoleView) → ItemsView
items_of [] = no_items
items_of (x ∷ xs) = item x.0 x.1 (items_of xs)

abbrev pub body_of : Option (Vec (ItemView × RoleView) Global) → BodyView
body_of None = absent
body_of (Some items) = present (items_of items.items)

abbrev pub pair_step : Pair-F ItemView ElemView (ItemView × RoleView) → ItemView × RoleView
pair_step p = (p.item, role_view p.role)

abbrev pub item_step : Item-F ItemView ElemView (ItemView × RoleView) → ItemView
item_step (Item-F.Tag t) = tag_item (tag_view t)
item_step (Item-F.Element e) = element_item e.0 e.1
item_step (Item-F.Space span) = space_item span.0
item_step (Item-F.Text s span) = text_item (text_view s) span.0
item_step Item-F.Hole = hole_item
item_step (Item-F.LineBreak span) = break_item span.0
item_step (Item-F.Box body span) = box_item (body_of body) span.0
item_step (Item-F.Block body span) = block_item (body_of body) span.0
item_step (Item-F.Frame f) = frame_item (frame_elem_view f)

-- an element without its body
abbrev pub head_of : {A B C : Type 0} → HtmlElem-F A B C → ElemHead
head_of e = record {
  name = e.tag;
  attrs = attrs_view e.attrs;
  css = e.css;
  parent = option_map (λ l. l.0) e.parent;
  span = e.span.0;
}

abbrev pub elem_step : HtmlElem-F ItemView ElemView (ItemView × RoleView) → ElemView
elem_step e = (head_of e, body_of e.body)

abbrev pub pair_view : Pair → ItemView × RoleView
pair_view = fold-Pair ItemView ElemView (ItemView × RoleView) item_step elem_step pair_step

abbrev pub item_view : Item → ItemView
item_view = fold-Item ItemView ElemView (ItemView × RoleView) item_step elem_step pair_step

abbrev pub pairs_view : List Pair → List (ItemView × RoleView)
pairs_view = map pair_view

abbrev pub items_view : List Pair → ItemsView
items_view ps = items_of (map pair_view ps)

abbrev pub body_view : Option (Vec Pair Global) → BodyView
body_view None = absent
body_view (Some items) = present (items_view items.items)

abbrev pub elem_view : HtmlElem → ElemView
elem_view = fold-HtmlElem ItemView ElemView (ItemView × RoleView) item_step elem_step pair_step
