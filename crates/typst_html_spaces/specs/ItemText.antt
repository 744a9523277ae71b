-- The text of items, by this project's rules. It does not depend on nodes, spans or anchors.
use Rattle.std.specs.Prelude.{ℕ, Bool, true, false, ◌==◌, List, [], ◌∷◌, ◌++◌, map, if◌then◌else◌}
use Rattle.html_names_core.specs.{Displays.{default_display}, Kinds.{is_replaced, is_line_break, shows_border}}
use Rattle.html_dom_shown.specs.Collapsing.{Piece, char, thing, line, edge, merged_edges}
use Rattle.html_flow_convert.specs.Converted.{body_whitespace}
use Rattle.html_flow_convert.specs.Items.{ItemView, tag_item, element_item, space_item, text_item, hole_item, break_item, box_item, block_item, frame_item, ItemsView, no_items, item, BodyView, absent, present}
use Rattle.html_flow_convert.specs.declared.convert.{Whitespace.{Whitespace}, Whitespace.TheVariants.{Normal, Pre}}

-- characters where white space collapses: CR LF, CR and LF are one line break each
abbrev pub chars_by_line : (after_return : Bool) → List ℕ → List Piece
chars_by_line after_return [] = []
chars_by_line after_return (c ∷ cs) =
    if c == 13 then line ∷ chars_by_line true cs
    else (if c == 10
    then (if after_return then chars_by_line false cs else line ∷ chars_by_line false cs)
    else char c ∷ chars_by_line false cs)

abbrev pub text_pieces : Whitespace → List ℕ → List Piece
text_pieces Normal text = chars_by_line false text
text_pieces Pre text = map char text

abbrev pub break_piece : Whitespace → Piece
break_piece Normal = line
break_piece Pre = char 10

abbrev pub between_edges : List Piece → List Piece
between_edges ps = edge ∷ (ps ++ edge ∷ [])

-- the text of an element, from that of its body, which does not count for a replaced element and a
-- `br`
abbrev pub element_pieces : (name : List ℕ) (body : List Piece) → List Piece
element_pieces name body =
    if is_replaced name then thing name ∷ []
    else (if is_line_break name then line ∷ []
    else (if shows_border (default_display name) then between_edges body else body))

-- the text of an item; boxes and frames are no plain flow: a box has the text of its body, and a
-- frame none
unfoldable mutual
  pub item_pieces : Whitespace → ItemView → List Piece
  item_pieces whitespace (tag_item t) = []
  item_pieces whitespace (element_item h body) =
      element_pieces h.name (body_pieces (body_whitespace whitespace h) body)
  item_pieces whitespace (space_item span) = char 32 ∷ []
  item_pieces whitespace (text_item s span) = text_pieces whitespace s
  item_pieces whitespace hole_item = []
  item_pieces whitespace (break_item span) = break_piece whitespace ∷ []
  item_pieces whitespace (box_item body span) = body_pieces whitespace body
  item_pieces whitespace (block_item body span) = between_edges (body_pieces whitespace body)
  item_pieces whitespace (frame_item f) = []

  pub items_pieces : Whitespace → ItemsView → List Piece
  items_pieces whitespace no_items = []
  items_pieces whitespace (item i role items) =
      item_pieces whitespace i ++ items_pieces whitespace items

  pub body_pieces : Whitespace → BodyView → List Piece
  body_pieces whitespace absent = []
  body_pieces whitespace (present items) = items_pieces whitespace items

-- neighbouring edges become one
abbrev pub items_text : ItemsView → List Piece
items_text items = merged_edges false (items_pieces Normal items)
