-- The nodes for a document's head, as a list.
use Rattle.std.proofs.Common.{◌≡◌, ◌==◌, Bool, true, false, List, [], length, map, not, refl, ap, ◌∙◌, true≢false, eqb-true}
use Rattle.std.proofs.lemmas.List.{length-map, nil_from_length}
use Rattle.html_dom_tree.specs.{Views.{node_view, nodes_view}, declared.node.HtmlNode.{HtmlNode}}
use Rattle.html_flow_convert.{proofs.LoneNodes.{node_list_of}, specs.LoneNode.{node_list}}

pub head_list : (nodes : List HtmlNode) → node_list (nodes_view nodes) ≡ map node_view nodes
head_list nodes = node_list_of (map node_view nodes)

no_not : (b : Bool) → not b ≡ false → b ≡ true
no_not true h = refl
no_not false h = absurd (true≢false h)

pub no_nodes : (nodes : List HtmlNode) → not (length (node_list (nodes_view nodes)) == 0) ≡ false
    → node_list (nodes_view nodes) ≡ []
no_nodes nodes h =
    nil_from_length (node_list (nodes_view nodes)) (eqb-true _ _ (no_not _ h))

pub head_length : (nodes : List HtmlNode) → length (node_list (nodes_view nodes)) ≡ length nodes
head_length nodes = ap length (head_list nodes) ∙ length-map nodes node_view
