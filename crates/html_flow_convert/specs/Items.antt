-- The flow of a document: items as pure values, in which texts are lists of characters.
use Rattle.std.specs.Prelude.{ℕ, ℤ, List, [], ◌∷◌, ◌++◌, Option, None, Some}
use Rattle.html_names_core.specs.Texts.{TextPair}
use Rattle.html_dom_tree.specs.{Attributes.{with_set}, Frames.{FrameView}, Tags.{TagView, starts, ends}}

-- the role of an item: that of its list, its own, or none
pub data RoleView : Type 0 where
  inherits : RoleView
  sets : List ℕ → RoleView
  unsets : RoleView

-- an element without its body
pub record ElemHead : Type 0 where
  pub name : List ℕ
  pub attrs : List TextPair
  pub css : List TextPair
  pub parent : Option ℕ
  pub span : ℕ

-- a drawing, the size of the surrounding text in millionths of a point, and its span
pub record FrameElemView : Type 0 where
  pub inner : FrameView
  pub text_size : ℤ
  pub span : ℕ

mutual
  pub data ItemView : Type 0 where
    tag_item : TagView → ItemView
    element_item : ElemHead → BodyView → ItemView
    space_item : (span : ℕ) → ItemView
    text_item : (text : List ℕ) (span : ℕ) → ItemView
    hole_item : ItemView
    break_item : (span : ℕ) → ItemView
    box_item : BodyView → (span : ℕ) → ItemView
    block_item : BodyView → (span : ℕ) → ItemView
    frame_item : FrameElemView → ItemView

  -- a list of items, each with its role
  pub data ItemsView : Type 0 where
    no_items : ItemsView
    item : ItemView → RoleView → ItemsView → ItemsView

  pub data BodyView : Type 0 where
    absent : BodyView
    present : ItemsView → BodyView

-- an element with its body
abbrev pub ElemView : Type 0
ElemView = ElemHead × BodyView

-- an element of that name and nothing else
abbrev pub new_head : List ℕ → ElemHead
new_head name = record { name = name; attrs = []; css = []; parent = None; span = 0 }

-- an element with that value in its first attribute of that name, or with the pair as its last
abbrev pub with_set_pair : TextPair → ElemView → ElemView
with_set_pair pair e = (record e.0 { attrs = with_set e.0.attrs pair }, e.1)

-- an element with a pair as its last attribute, or unchanged
abbrev pub with_pair : TextPair → ElemView → ElemView
with_pair pair e = (record e.0 { attrs = e.0.attrs ++ pair ∷ [] }, e.1)

abbrev pub with_optional_pair : List ℕ → Option (List ℕ) → ElemView → ElemView
with_optional_pair name None e = e
with_optional_pair name (Some value) e = with_pair (name, value) e

-- items with one more at the end
abbrev pub with_last : ItemsView → ItemView × RoleView → ItemsView
with_last no_items x = item x.0 x.1 no_items
with_last (item i role is) x = item i role (with_last is x)

-- an element with an item at the end of its body, which is added if there is none
abbrev pub with_last_item : ItemView × RoleView → ElemView → ElemView
with_last_item x (head, absent) = (head, present (item x.0 x.1 no_items))
with_last_item x (head, present items) = (head, present (with_last items x))

-- an element as an item
abbrev pub element_as_item : ElemView → ItemView
element_as_item e = element_item e.0 e.1

-- an element with that body, css or span instead of its own
abbrev pub with_items : ItemsView → ElemView → ElemView
with_items items e = (e.0, present items)

abbrev pub with_properties : List TextPair → ElemView → ElemView
with_properties css e = (record e.0 { css = css }, e.1)

abbrev pub with_span : ℕ → ElemView → ElemView
with_span span e = (record e.0 { span = span }, e.1)

-- an item with the role of its list
abbrev pub inheriting : ItemView → ItemView × RoleView
inheriting i = (i, inherits)

-- an item between the tags that locate it
abbrev pub located_item : ℕ → Option (List ℕ) → Option ℕ → ItemView → List (ItemView × RoleView)
located_item location label dest i = inheriting (tag_item (starts location label dest))
    ∷ inheriting i ∷ inheriting (tag_item (ends location)) ∷ []

-- the span of an item, 0 for a tag and a hole
abbrev pub item_span : ItemView → ℕ
item_span (tag_item t) = 0
item_span (element_item h b) = h.span
item_span (space_item span) = span
item_span (text_item s span) = span
item_span hole_item = 0
item_span (break_item span) = span
item_span (box_item b span) = span
item_span (block_item b span) = span
item_span (frame_item f) = f.span
