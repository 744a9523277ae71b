-- Names of elements without elements in them.
use Rattle.std.proofs.Common.{◌≡◌, ℕ, []}
use Rattle.html_dom_tree.specs.Tree.{Head, tag_node, text_node, element_node, frame_node, NodesView, none, node}
use Rattle.typst_html_encode.specs.ExportFaults.{void_faults, text_faults, nodes_raw_faults, closing_faults, raw_content_faults}
use Rattle.typst_html_encode.specs.{ReadingBack.{NodeIsNamed, NodesAreNamed}, declared.escape.Escaping.{Escaping}}
use Rattle.typst_html_encode.specs.declared.escape.Escaping.TheVariants as escaping
use Rattle.typst_html_encode.proofs.Runs.{left_empty, right_empty}

pub texts_named : (e : Escaping) (ns : NodesView) → nodes_raw_faults e ns ≡ [] → NodesAreNamed ns
unfolding NodeIsNamed NodesAreNamed
texts_named e none h = tt
texts_named e (node (tag_node t) ns) h = (tt, texts_named e ns h)
texts_named e (node (text_node s span) ns) h =
    (tt, texts_named e ns (right_empty (text_faults e span s) (nodes_raw_faults e ns) h))
texts_named e (node (element_node g kids) ns) h = cc
texts_named e (node (frame_node b) ns) h = cc

pub raw_content_named : (h : Head) (ns : NodesView) → raw_content_faults h ns ≡ [] →
    NodesAreNamed ns
raw_content_named h ns e = texts_named escaping.Raw ns
    (left_empty (nodes_raw_faults escaping.Raw ns) (closing_faults h ns) e)

pub childless_named : (span : ℕ) (ns : NodesView) → void_faults span ns ≡ [] → NodesAreNamed ns
unfolding NodesAreNamed
childless_named span none h = tt
childless_named span (node n ns) h = cc
