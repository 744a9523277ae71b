-- Plain flow: the items whose spaces all stay.
use Rattle.std.specs.Prelude.{ℕ, Bool, true, false, not, ◌&&◌, ◌||◌, List, [], ◌∷◌, codes, bytes_eq, if◌then◌else◌, Option, Some}
use Rattle.html_names_core.specs.{Displays.{default_display}, Kinds.{is_replaced, is_line_break, shows_border}}
use Rattle.html_names_core.specs.{Names.{listed_names, stands_in}, Texts.{TextPair}, declared.property.Display.{Display}}
use Rattle.html_names_core.specs.declared.property.Display.TheVariants as display
use Rattle.html_dom_tree.specs.Attributes.{has_name}
use Rattle.html_flow_convert.specs.Converted.{body_whitespace}
use Rattle.html_flow_convert.specs.Items.{ElemHead, ItemView, tag_item, element_item, space_item, text_item, hole_item, break_item, block_item, ItemsView, no_items, item, BodyView, absent, present}
use Rattle.html_flow_convert.specs.declared.convert.{Whitespace.{Whitespace}, Whitespace.TheVariants.{Normal}}

abbrev pub is_inline : Option Display → Bool
is_inline (Some display.Inline) = true
is_inline _ = false

-- the names of elements that are invisible in text, or have a place of their own in a document
abbrev pub unplain_names : List (List ℕ)
unplain_names = listed_names (codes "noscript html body")

unfoldable pub is_plain_name : List ℕ → Bool
is_plain_name name =
    (is_replaced name || is_inline (default_display name) || shows_border (default_display name))
    && not (stands_in unplain_names name)

abbrev pub has_no_css : (css : List TextPair) → Bool
has_no_css [] = true
has_no_css (p ∷ ps) = false

-- whether an element has a plain name and no style of its own
abbrev pub is_plain_head : ElemHead → Bool
is_plain_head h = is_plain_name h.name && has_no_css h.css && not (has_name h.attrs (codes "style"))

-- whether an item is a tag, a hole or an empty text
abbrev pub is_unseen_item : ItemView → Bool
is_unseen_item (tag_item t) = true
is_unseen_item (text_item [] span) = true
is_unseen_item hole_item = true
is_unseen_item _ = false

abbrev pub are_unseen_items : ItemsView → Bool
are_unseen_items no_items = true
are_unseen_items (item i role items) = is_unseen_item i && are_unseen_items items

-- whether a text is CR LF, CR or LF alone
abbrev pub is_break_text : List ℕ → Bool
is_break_text s = bytes_eq s (codes "\r\n") || bytes_eq s (codes "\r") || bytes_eq s (codes "\n")

-- whether an item is a line break, by any spelling; where white space stays, a line feed is a
-- character
abbrev pub is_break : Whitespace → ItemView → Bool
is_break whitespace (element_item h body) = is_line_break h.name
is_break Normal (text_item s span) = is_break_text s
is_break Normal (break_item span) = true
is_break _ _ = false

-- whether items are one line break, and nothing else
abbrev pub are_one_break : Whitespace → ItemsView → Bool
are_one_break whitespace no_items = false
are_one_break whitespace (item i role items) =
    if is_unseen_item i then are_one_break whitespace items
    else is_break whitespace i && are_unseen_items items

abbrev pub is_one_break : Whitespace → BodyView → Bool
is_one_break whitespace absent = false
is_one_break whitespace (present items) = are_one_break whitespace items

unfoldable mutual
  pub is_plain_item : Whitespace → ItemView → Bool
  is_plain_item whitespace (tag_item t) = true
  is_plain_item whitespace (element_item h body) =
      is_plain_head h && is_plain_body (body_whitespace whitespace h) body
  is_plain_item whitespace (space_item span) = true
  is_plain_item whitespace (text_item s span) = true
  is_plain_item whitespace hole_item = true
  is_plain_item whitespace (break_item span) = true
  is_plain_item whitespace (block_item body span) =
      not (is_one_break whitespace body) && is_plain_body whitespace body
  is_plain_item whitespace _ = false

  pub are_plain_items : Whitespace → ItemsView → Bool
  are_plain_items whitespace no_items = true
  are_plain_items whitespace (item i role items) =
      is_plain_item whitespace i && are_plain_items whitespace items

  pub is_plain_body : Whitespace → BodyView → Bool
  is_plain_body whitespace absent = true
  is_plain_body whitespace (present items) = are_plain_items whitespace items

abbrev pub is_plain_flow : ItemsView → Bool
is_plain_flow = are_plain_items Normal
