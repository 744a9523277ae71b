-- Spaces stay: once white space has collapsed, what is visible of the nodes that items become is
-- the items' text.
use Rattle.std.specs.Prelude.{◌≡◌, ℕ, true, false, List}
use Rattle.html_dom_tree.specs.{PlainTree.{nodes_normal}, Styled.{styled_nodes}, Tree.{Head, NodesView}}
use Rattle.html_names_core.specs.Kinds.{is_raw}
use Rattle.html_dom_shown.specs.Collapsing.{Piece, plains_atoms, collapsed_pieces}
use Rattle.typst_html_encode.specs.Indented.{content_layout}
use Rattle.html_flow_convert.specs.{Converted.{RoleText, converted_nodes}, Items.{ItemsView}}
use Rattle.html_flow_convert.specs.declared.convert.{ConversionLevel.TheVariants.{Block}, Whitespace.TheVariants.{Normal}}
use Rattle.typst_html_spaces.specs.{ItemText.{items_text}, PlainFlow.{is_plain_flow}}

-- what is visible of nodes, with their css as `style` attributes
abbrev pub seen_pieces : NodesView → List Piece
seen_pieces ns = collapsed_pieces (plains_atoms false (nodes_normal (styled_nodes ns)))

-- items in plain flow lose no space and get none
abbrev pub SpacesStay : Type 0
SpacesStay = (role : RoleText) (items : ItemsView) → is_plain_flow items ≡ true →
    seen_pieces (converted_nodes Block Normal role items) ≡ items_text items

-- the same holds of their nodes as pretty writing lays them out in an element that is no raw one,
-- on any level
abbrev pub PrettySpacesStay : Type 0
PrettySpacesStay = (role : RoleText) (items : ItemsView) (level : ℕ) (h : Head) →
    is_plain_flow items ≡ true → is_raw h.name ≡ false →
    collapsed_pieces (plains_atoms false (nodes_normal
    (content_layout (record { pretty = true; level = level }) h
    (styled_nodes (converted_nodes Block Normal role items))))) ≡ items_text items
