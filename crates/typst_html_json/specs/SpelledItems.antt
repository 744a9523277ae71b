-- The items that a JSON list spells, by the shape of its lists. Names are not checked here.
--     ["text", t]   ["start", n]   ["start", n, dest]   ["end", n]   ["space"]   ["break"]   ["hole"]
--     ["el", tag, [[name, value], ..], [item, ..]]   ["block", [item, ..]]   ["box", [item, ..]]
-- and in documents also, with css, labels, names of places and roles,
--     ["el", tag, [[name, value], ..], [[property, value], ..], [item, ..]]   ["start", n, dest, label]
--     ["place", name]   ["link", name]   ["role", role, item]
-- where dest and role may be null. The spans are the numbers of these lists, counted from 1 in the
-- order of their opening brackets. Every body is present, even an empty one, and each item has the
-- role of its list, unless it has one of its own. A place starts the location of its name, which is
-- its label, and a link leads there; a value has tags with names or tags with numbers, not both. A
-- value that spells no items leaves the form at the same places as one that spells no tree.
use Rattle.std.specs.Prelude.{ℕ, Bool, true, false, List, [], None, Some, Option, option_and_then, option_map, Ok, Err, if◌then◌else◌}
use Rattle.serde_json.specs.{Data.{Data, null, array, Items, no_items, item}, Find.{as_array}}
use Rattle.html_dom_tree.specs.Tree.{TextPair, starts}
use Rattle.html_values_css.specs.Properties.{with_property}
use Rattle.html_flow_convert.specs.Items as flow
use Rattle.html_flow_convert.specs.Items.{ElemHead, ItemView, tag_item, element_item, space_item, text_item, hole_item, break_item, box_item, block_item, ItemsView, RoleView, inheriting, present}
use Rattle.typst_html_json.specs.Fields.{text_at, pair_at, pairs_at, text_form, start_form, end_form, no_fields, leaf, numbered_leaf, named_leaf, element_from, row_from}
use Rattle.typst_html_json.specs.{FormKinds.{list_kind}, LeftForms.{Left, mapped, from_part}, Marks.{Mark, opened, at_start}}
use Rattle.typst_html_json.specs.declared.{input_forms.Forms.{Forms}, input_forms.Forms.TheVariants.{Program, Document}, kind.Kind.{Kind}}
use Rattle.typst_html_json.specs.declared.kind.Kind.TheVariants.{Text, Element, Block, Box, Start, End, Space, Break, Hole, Place, Link, Role}

-- an item and its role
abbrev pub Part : Type 0
Part = ItemView × RoleView

abbrev pub item_head :
    (css : List TextPair) (span : ℕ) (tag : List ℕ) (pairs : List TextPair) → ElemHead
item_head css span tag pairs =
    record { name = tag; attrs = pairs; css = css; parent = None; span = span }

abbrev pub element_made :
    (css : List TextPair) (span : ℕ) → List ℕ → List TextPair → ItemsView → ItemView
element_made css span tag pairs items =
    element_item (item_head css span tag pairs) (present items)

-- an item with its role, followed by others
abbrev pub with_part : Part → ItemsView → ItemsView
with_part p items = flow.item p.0 p.1 items

-- these properties, followed by those of a list; the last of one name counts
abbrev pub with_css : List TextPair → Items → Option (List TextPair)
with_css css no_items = Some css
with_css css (item d ds) =
    option_and_then (λ p. with_css (with_property css p.0 p.1) ds) (pair_at d)

abbrev pub css_at : Data → Option (List TextPair)
css_at d = option_and_then (with_css []) (as_array d)

-- the role that a value spells, or null for none
abbrev pub role_at : Data → Option RoleView
role_at null = Some flow.unsets
role_at d = option_map flow.sets (text_at d)

-- an item that has no fields
abbrev pub lone : ItemView → Items → Mark → Left (ItemView × Mark)
lone i fields m = leaf (λ none. i) (no_fields fields) m

abbrev pub spelled_text : Items → Mark → Left (ItemView × Mark)
spelled_text fields m = leaf (λ t. text_item t m.lists) (text_form fields) m

abbrev pub spelled_place : Items → Mark → Left (ItemView × Mark)
spelled_place fields m = named_leaf (λ l t. tag_item (starts l (Some t) None)) (text_form fields) m

-- the start of a link has the location 0, which no name has
abbrev pub spelled_link : Items → Mark → Left (ItemView × Mark)
spelled_link fields m = named_leaf (λ l t. tag_item (starts 0 None (Some l))) (text_form fields) m

abbrev pub block_from : (span : ℕ) → Left (ItemsView × Mark) → Left (ItemView × Mark)
block_from span = mapped (λ p. (block_item (present p.0) span, p.1))

abbrev pub box_from : (span : ℕ) → Left (ItemsView × Mark) → Left (ItemView × Mark)
box_from span = mapped (λ p. (box_item (present p.0) span, p.1))

-- an item of that kind, given those whose lists hold others
abbrev pub kind_from : Forms → Kind → Items → (m : Mark)
    → (as_element as_block as_box : Left (ItemView × Mark)) → Left (ItemView × Mark)
kind_from forms Text fields m as_element as_block as_box = spelled_text fields m
kind_from forms Element fields m as_element as_block as_box = as_element
kind_from forms Block fields m as_element as_block as_box = as_block
kind_from forms Box fields m as_element as_block as_box = as_box
kind_from forms Start fields m as_element as_block as_box =
    numbered_leaf tag_item (start_form forms fields) m
kind_from forms End fields m as_element as_block as_box = numbered_leaf tag_item (end_form fields) m
kind_from forms Space fields m as_element as_block as_box = lone (space_item m.lists) fields m
kind_from forms Break fields m as_element as_block as_box = lone (break_item m.lists) fields m
kind_from forms Hole fields m as_element as_block as_box = lone hole_item fields m
kind_from forms Place fields m as_element as_block as_box = spelled_place fields m
kind_from forms Link fields m as_element as_block as_box = spelled_link fields m
kind_from forms Role fields m as_element as_block as_box = Err m.lists

-- an item with the role of its list
abbrev pub inner_from : Left (ItemView × Mark) → Left (Part × Mark)
inner_from = mapped (λ p. (inheriting p.0, p.1))

-- the item of another list with that role
abbrev pub role_from : RoleView → Left (Part × Mark) → Left (Part × Mark)
role_from role = mapped (λ p. ((p.0.0, role), p.1))

abbrev pub is_role : Kind → Bool
is_role Role = true
is_role kind = false

abbrev pub part_from : Kind → (as_item : Left (ItemView × Mark))
    (with_role : Left (Part × Mark)) → Left (Part × Mark)
part_from kind as_item with_role = if is_role kind then with_role else inner_from as_item

-- the item that a value spells, and the state of the reader after it
abbrev mutual
  pub spelled_part : Forms → Data → Mark → Left (Part × Mark)
  spelled_part forms (array items) m = part_form forms items (opened m)
  spelled_part forms _ m = Err m.lists

  -- the item of the list that was opened last
  pub part_form : Forms → Items → Mark → Left (Part × Mark)
  part_form forms no_items m = Err m.lists
  part_form forms (item kind fields) m = from_part m.lists (λ k. part_from k
      (kind_from forms k fields m (element_form forms fields m)
      (block_from m.lists (body_form forms fields m)) (box_from m.lists (body_form forms fields m)))
      (role_form forms fields m)) (list_kind forms (item kind fields))

  pub element_form : Forms → Items → Mark → Left (ItemView × Mark)
  element_form forms (item tag (item attrs (item body no_items))) m = element_from
      (element_made [] m.lists) m (text_at tag) (pairs_at attrs) (list_at forms body m)
  element_form Document (item tag (item attrs (item css (item body no_items)))) m =
      from_part m.lists (λ properties. element_from (element_made properties m.lists) m
      (text_at tag) (pairs_at attrs) (list_at Document body m)) (css_at css)
  element_form forms _ m = Err m.lists

  pub body_form : Forms → Items → Mark → Left (ItemsView × Mark)
  body_form forms (item body no_items) m = list_at forms body m
  body_form forms _ m = Err m.lists

  pub role_form : Forms → Items → Mark → Left (Part × Mark)
  role_form forms (item role (item d no_items)) m =
      from_part m.lists (λ r. role_from r (spelled_part forms d m)) (role_at role)
  role_form forms _ m = Err m.lists

  pub list_at : Forms → Data → Mark → Left (ItemsView × Mark)
  list_at forms (array items) m = spelled_list forms items m
  list_at forms _ m = Err m.lists

  pub spelled_list : Forms → Items → Mark → Left (ItemsView × Mark)
  spelled_list forms no_items m = Ok (flow.no_items, m)
  spelled_list forms (item d ds) m =
      row_from with_part (spelled_part forms d m) (spelled_list forms ds)

abbrev pub block_form : Forms → Items → Mark → Left (ItemView × Mark)
block_form forms fields m = block_from m.lists (body_form forms fields m)

abbrev pub box_form : Forms → Items → Mark → Left (ItemView × Mark)
box_form forms fields m = box_from m.lists (body_form forms fields m)

-- an item of that kind in the list that was opened last
abbrev pub item_of_kind : Forms → Kind → Items → Mark → Left (ItemView × Mark)
item_of_kind forms kind fields m = kind_from forms kind fields m (element_form forms fields m)
    (block_form forms fields m) (box_form forms fields m)

-- an item of that kind in the list that was opened last, and its role
abbrev pub part_of_kind : Forms → Kind → Items → Mark → Left (Part × Mark)
part_of_kind forms kind fields m =
    part_from kind (item_of_kind forms kind fields m) (role_form forms fields m)

-- the items that a value spells in these forms
abbrev pub items_at : Forms → Data → Left ItemsView
items_at forms d = mapped (λ p. p.0) (list_at forms d at_start)

-- the items that a value spells in the forms of the program
abbrev pub spelled_items : Data → Left ItemsView
spelled_items = items_at Program

-- the items that a value spells in the forms of documents
abbrev pub spelled_document_items : Data → Left ItemsView
spelled_document_items = items_at Document
