-- The HTML text of items by themselves, with no document around them: that of their nodes, with css
-- in `style` attributes, as children of an element are written.
use Rattle.std.specs.Prelude.{◌≡◌, ℕ, true, List, ◌++◌, map, Option, Some, None}
use Rattle.html_dom_tree.specs.{PlainTree.{Plain, words, branch}, Styled.{styled_nodes}, Tree.{NodesView}}
use Rattle.html_dom_shown.specs.{Collapsing.{Piece}, SeenBodies.{seen_plains}}
use Rattle.typst_html_encode.specs.FaultViews.{ExportFaultView, export_fault_view}
use Rattle.typst_html_encode.specs.Fragments as writing
use Rattle.typst_html_encode.specs.{Fragments.{text_in_div}, FrameWriters.{Frames}, Reader.{read}}
use Rattle.html_flow_convert.specs.{Converted.{converted_nodes}, Depth.{items_too_deep}, Items.{ItemsView}}
use Rattle.html_flow_convert.specs.declared.convert.{ConversionLevel.{ConversionLevel}, Whitespace.TheVariants.{Normal}}
use Rattle.typst_html_spaces.specs.{ItemText.{items_text}, PlainFlow.{is_plain_flow}}
use Rattle.typst_html_export.specs.Assembled.{depth_faults}

abbrev pub fragment_nodes : ConversionLevel → ItemsView → NodesView
fragment_nodes level items = styled_nodes (converted_nodes level Normal None items)

abbrev pub export_fragment_text : Frames → ConversionLevel → ItemsView → List ℕ
export_fragment_text frames level items = writing.fragment_text frames (fragment_nodes level items)

-- all faults: first bodies that are too deep, then what can't be written
abbrev pub export_fragment_faults : (limit : ℕ) → Frames → ConversionLevel → ItemsView
    → List ExportFaultView
export_fragment_faults limit frames level items = depth_faults (items_too_deep 0 limit items)
    ++ map export_fault_view (writing.fragment_faults frames (fragment_nodes level items))

abbrev pub seen_children : Option Plain → Option (List Piece)
seen_children None = None
seen_children (Some (words t)) = None
seen_children (Some (branch name attrs kids)) = Some (seen_plains kids)

-- once the text is put into a `div`, exactly the text of items in plain flow is visible of it
abbrev pub FragmentIsSeen : (text : List ℕ) → ItemsView → Type 0
FragmentIsSeen text items = is_plain_flow items ≡ true →
    seen_children (read (text_in_div text)) ≡ Some (items_text items)
