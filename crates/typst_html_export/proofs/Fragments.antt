-- Put into a `div`, the text of items by themselves shows exactly their text.
use Rattle.std.proofs.Common.{◌≡◌, ℕ, List, Some, None, ap, ◌∙◌, sym, subst, Result, Ok, Err, IfOk, String, Global}
use Rattle.html_dom_tree.specs.{FrameFree.{NodesAreFrameFree}, Styled.{styled_nodes}, Tree.{NodesView}, Views.{text_view}}
use Rattle.html_flow_convert.specs.{Converted.{converted_nodes}, Items.{ItemsView}, declared.convert.ConversionLevel.{ConversionLevel}}
use Rattle.html_flow_convert.specs.declared.convert.{ConversionLevel.TheVariants.{Block}, Whitespace.TheVariants.{Normal}}
use Rattle.typst_html_encode.specs.{Fragments.{ReadsInDiv}, declared.fault.ExportFault.{ExportFault}}
use Rattle.typst_html_spaces.proofs.{PlainNodes.{makes_plain_nodes, can_be_read}, SpacesStay.{spaces_stay}}
use Rattle.typst_html_export.specs.Fragments.{fragment_nodes, seen_children, FragmentIsSeen}

is_seen : (items : ItemsView) (text : List ℕ) →
    (NodesAreFrameFree (fragment_nodes Block items) → ReadsInDiv text (fragment_nodes Block items)) →
    FragmentIsSeen text items
is_seen items text reads plain =
    let nodes = converted_nodes Block Normal None items in
    let made = (makes_plain_nodes None items plain).0 in
    ap seen_children (reads (can_be_read nodes made).0) ∙ ap Some (spaces_stay None items plain)

seen_of : (items : ItemsView) (nodes : NodesView) → nodes ≡ converted_nodes Block Normal None items →
    (r : Result (String Global) ExportFault) →
    (NodesAreFrameFree (styled_nodes nodes) →
    IfOk r (λ text. ReadsInDiv (text_view text) (styled_nodes nodes))) →
    IfOk r (λ text. FragmentIsSeen (text_view text) items)
seen_of items nodes is (Err e) reads = tt
seen_of items nodes is (Ok text) reads = is_seen items (text_view text)
    (subst (λ ns. NodesAreFrameFree (styled_nodes ns) → ReadsInDiv (text_view text) (styled_nodes ns)) is
    reads)

pub fragment_is_seen : (level : ConversionLevel) (items : ItemsView) (nodes : NodesView) →
    nodes ≡ converted_nodes level Normal None items →
    (r : Result (String Global) ExportFault) →
    (NodesAreFrameFree (styled_nodes nodes) →
    IfOk r (λ text. ReadsInDiv (text_view text) (styled_nodes nodes))) →
    level ≡ Block → IfOk r (λ text. FragmentIsSeen (text_view text) items)
fragment_is_seen level items nodes is r reads block =
    seen_of items nodes (is ∙ ap (λ l. converted_nodes l Normal None items) block) r reads
