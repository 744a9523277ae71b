-- Nodes in a row, as lists and as pure values.
use Rattle.std.proofs.{Common.{◌≡◌, List, ◌++◌, map, refl, ap, sym, ◌∙◌}, lemmas.List.{map-append}}
use Rattle.html_dom_tree.specs.{Views.{node_view, nodes_of, nodes_view}, declared.node.HtmlNode.{HtmlNode}}
use Rattle.html_flow_convert.proofs.LoneNodes.{node_list_of}
use Rattle.typst_html_export.specs.Assembled.{both_nodes}

pub both_view : (ns others : List HtmlNode)
    → nodes_view (ns ++ others) ≡ both_nodes (nodes_view ns) (nodes_view others)
both_view ns others =
    let both : both_nodes (nodes_view ns) (nodes_view others)
    ≡ nodes_of (map node_view ns ++ map node_view others) =
    rw (node_list_of (map node_view ns), node_list_of (map node_view others)) refl in
    ap nodes_of (map-append node_view ns others) ∙ sym both
