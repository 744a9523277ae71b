-- Items that are too deep: the spans of those whose bodies are deeper than the limit, in document
-- order.
use Rattle.std.specs.Prelude.{ℕ, ◌+◌, nat_lt, if◌then◌else◌, List, [], ◌∷◌, ◌++◌, Option, None, Some}
use Rattle.html_flow_convert.specs.Items.{ItemView, tag_item, element_item, space_item, text_item, hole_item, break_item, box_item, block_item, frame_item, ItemsView, no_items, item, BodyView, absent, present}

-- the spans of items that are too deep, for items at a depth; each body is one deeper, and the
-- content of a body that is too deep is not checked
unfoldable mutual
  pub item_too_deep : (depth limit : ℕ) → ItemView → List ℕ
  item_too_deep depth limit (tag_item t) = []
  item_too_deep depth limit (element_item h body) = body_too_deep depth limit h.span body
  item_too_deep depth limit (space_item span) = []
  item_too_deep depth limit (text_item s span) = []
  item_too_deep depth limit hole_item = []
  item_too_deep depth limit (break_item span) = []
  item_too_deep depth limit (box_item body span) = body_too_deep depth limit span body
  item_too_deep depth limit (block_item body span) = body_too_deep depth limit span body
  item_too_deep depth limit (frame_item f) = []

  pub body_too_deep : (depth limit span : ℕ) → BodyView → List ℕ
  body_too_deep depth limit span absent = []
  body_too_deep depth limit span (present items) =
      if nat_lt limit (depth + 1) then span ∷ [] else items_too_deep (depth + 1) limit items

  pub items_too_deep : (depth limit : ℕ) → ItemsView → List ℕ
  items_too_deep depth limit no_items = []
  items_too_deep depth limit (item i role items) =
      item_too_deep depth limit i ++ items_too_deep depth limit items

-- the same if the items stand in something with that span, which may be too deep itself
abbrev pub fragment_too_deep : (depth limit span : ℕ) → ItemsView → List ℕ
fragment_too_deep depth limit span items =
    if nat_lt limit depth then span ∷ [] else items_too_deep depth limit items

-- the first of these spans
abbrev pub first_too_deep : List ℕ → Option ℕ
first_too_deep [] = None
first_too_deep (span ∷ spans) = Some span
