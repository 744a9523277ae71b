-- Examples of items with their text, and of items that are no plain flow.
use Rattle.std.specs.Prelude.{◌≡◌, ℕ, Bool, true, false, List, [], ◌∷◌, ◌++◌, map, codes, None}
use Rattle.html_dom_tree.specs.Tags.{starts, ends}
use Rattle.html_dom_shown.specs.Collapsing.{Piece, char, thing, line, edge}
use Rattle.html_flow_convert.specs.Converted.{converted_nodes}
use Rattle.html_flow_convert.specs.Items.{inherits, ItemView, tag_item, element_item, text_item, space_item, hole_item, break_item, box_item, block_item, ItemsView, no_items, item, absent, present, new_head}
use Rattle.html_flow_convert.specs.declared.convert.{ConversionLevel.TheVariants.{Block}, Whitespace.TheVariants.{Normal}}
use Rattle.typst_html_spaces.specs.{ItemText.{items_text}, PlainFlow.{is_plain_flow}, SpacesStay.{seen_pieces}}

-- items without roles and spans
abbrev pub row_items : List ItemView → ItemsView
row_items [] = no_items
row_items (i ∷ is) = item i inherits (row_items is)

abbrev words : List ℕ → ItemView
words s = text_item s 0

abbrev space : ItemView
space = space_item 0

abbrev start_item : ItemView
start_item = tag_item (starts 4 None None)

abbrev end : ItemView
end = tag_item (ends 4)

abbrev element : List ℕ → List ItemView → ItemView
element name inside = element_item (new_head name) (present (row_items inside))

abbrev paragraph : List ItemView → ItemView
paragraph = element (codes "p")

abbrev emphasis : List ItemView → ItemView
emphasis = element (codes "em")

abbrev block : List ItemView → ItemView
block inside = block_item (present (row_items inside)) 0

abbrev plain_pieces : List ℕ → List Piece
plain_pieces = map char

abbrev pieces_in_edges : List ℕ → List Piece
pieces_in_edges s = edge ∷ plain_pieces s ++ edge ∷ []

-- items, and their text
abbrev pub SeenRow : Type 0
SeenRow = List ItemView × List Piece

-- a space after an ignorable character
abbrev ignorable_within : List ℕ
ignorable_within = 97 ∷ 0x200b ∷ 32 ∷ 98 ∷ []

-- examples of texts and spaces of paragraphs
abbrev pub lines : List SeenRow
lines =
    (paragraph (words (codes "a<b & c>d") ∷ []) ∷ [], pieces_in_edges (codes "a<b & c>d"))
    ∷ (paragraph (words (codes "a  b") ∷ []) ∷ [], pieces_in_edges (codes "a  b"))
    ∷ (paragraph (words (codes "a b") ∷ []) ∷ [], pieces_in_edges (codes "a b"))
    ∷ (
      paragraph (words (codes "a ") ∷ emphasis (words (codes " b") ∷ []) ∷ []) ∷ [],
      pieces_in_edges (codes "a  b"),
    )
    ∷ (
      paragraph (words (codes "a\r\n \t") ∷ []) ∷ [],
      edge ∷ plain_pieces (codes "a") ++ line ∷ plain_pieces (codes " \t") ++ edge ∷ [],
    )
    ∷ (paragraph (words ignorable_within ∷ []) ∷ [], pieces_in_edges ignorable_within)
    ∷ (
      paragraph (words (codes "a") ∷ space ∷ start_item ∷ space ∷ end ∷ words (codes "b") ∷ []) ∷ [],
      pieces_in_edges (codes "a  b"),
    )
    ∷ (paragraph [] ∷ start_item ∷ words (codes "x") ∷ end ∷ [], edge ∷ plain_pieces (codes "x"))
    ∷ (start_item ∷ end ∷ [], [])
    ∷ (emphasis (emphasis (emphasis [] ∷ []) ∷ []) ∷ [], [])
    ∷ (
      words (codes "a\rb\n\nc\n\rd") ∷ break_item 0 ∷ element (codes "br") [] ∷ [],
      plain_pieces (codes "a") ++ line ∷ plain_pieces (codes "b") ++ line ∷ line ∷ plain_pieces (codes "c") ++ line ∷ line
          ∷ plain_pieces (codes "d") ++ line ∷ line ∷ [],
    )
    ∷ (
      element (codes "pre") (words (codes " a\r\n") ∷ break_item 0 ∷ block (words (codes "\n") ∷ [])
          ∷ []) ∷ [],
      edge ∷ plain_pieces (codes " a\r\n\n") ++ edge ∷ plain_pieces (codes "\n") ++ edge ∷ [],
    )
    ∷ []

-- examples of blocks
abbrev pub blocks : List SeenRow
blocks = (
  block (emphasis (words (codes "x") ∷ []) ∷ []) ∷ block (words (codes "x") ∷ [])
      ∷ block (element (codes "tr") [] ∷ []) ∷ [],
  edge ∷ plain_pieces (codes "x") ++ edge ∷ plain_pieces (codes "x") ++ edge ∷ [],
)
    ∷ (block (space ∷ []) ∷ [], pieces_in_edges (codes " "))
    ∷ (
      words (codes "a") ∷ space ∷ block (emphasis (words (codes "x") ∷ []) ∷ []) ∷ space
          ∷ words (codes "b") ∷ [],
      plain_pieces (codes "a ") ++ edge ∷ plain_pieces (codes "x") ++ edge ∷ plain_pieces (codes " b"),
    )
    ∷ (
      words (codes "a ") ∷ block (space ∷ []) ∷ words (codes "b") ∷ [],
      plain_pieces (codes "a ") ++ edge ∷ plain_pieces (codes " ") ++ edge ∷ plain_pieces (codes "b"),
    )
    ∷ (
      words (codes "a") ∷ space ∷ block (element (codes "img") [] ∷ []) ∷ [],
      plain_pieces (codes "a ") ++ edge ∷ thing (codes "img") ∷ edge ∷ [],
    )
    ∷ (block_item absent 0 ∷ [], edge ∷ [])
    ∷ (block (words (codes "\n\n") ∷ []) ∷ [], edge ∷ line ∷ line ∷ edge ∷ [])
    ∷ []

-- examples of lists and tables
abbrev pub lists_and_tables : List SeenRow
lists_and_tables = (
  element (codes "ul") (element (codes "li") (words (codes "a ") ∷ [])
      ∷ element (codes "li") (words (codes " b") ∷ []) ∷ []) ∷ [],
  edge ∷ plain_pieces (codes "a ") ++ edge ∷ plain_pieces (codes " b") ++ edge ∷ [],
)
    ∷ (
      element (codes "table") (element (codes "tr") (element (codes "td") (words (codes "x ") ∷ [])
          ∷ space ∷ element (codes "td") (words (codes "y") ∷ []) ∷ []) ∷ []) ∷ [],
      edge ∷ plain_pieces (codes "x ") ++ edge ∷ plain_pieces (codes " ") ++ edge ∷ plain_pieces (codes "y") ++ edge ∷ [],
    )
    ∷ []

-- examples of boxes, names that are no plain flow, and blocks of one line break by any spelling
abbrev pub others : List (List ItemView)
others =
    (box_item (present (row_items (words (codes "y") ∷ []))) 0 ∷ [])
    ∷ (element (codes "body") (words (codes "x") ∷ []) ∷ [])
    ∷ (element (codes "html") [] ∷ [])
    ∷ (element (codes "noscript") [] ∷ [])
    ∷ (paragraph (element (codes "textarea") (space ∷ []) ∷ []) ∷ [])
    ∷ (element (codes "math") [] ∷ [])
    ∷ (block (break_item 0 ∷ []) ∷ [])
    ∷ (paragraph (block (start_item ∷ words [] ∷ words (codes "\r\n") ∷ hole_item ∷ []) ∷ []) ∷ [])
    ∷ (block (element (codes "br") (words (codes "x") ∷ []) ∷ []) ∷ [])
    ∷ []

-- whether items are plain flow, their text, and what is visible of their nodes
abbrev pub row_answer : SeenRow → Bool × List Piece × List Piece
row_answer r =
    let items = row_items r.0 in
    (is_plain_flow items, items_text items, seen_pieces (converted_nodes Block Normal None items))

-- the expected result: the items are plain flow with that text, and exactly that is visible of the
-- nodes
abbrev pub expected_answer : SeenRow → Bool × List Piece × List Piece
expected_answer r = (true, r.1, r.1)

abbrev pub AreSeen : List SeenRow → Type 0
AreSeen rows = map row_answer rows ≡ map expected_answer rows

abbrev pub AreNotPlain : List (List ItemView) → Type 0
AreNotPlain rows = map (λ is. is_plain_flow (row_items is)) rows ≡ map (λ is. false) rows
