use Rattle.html_dom_tree.specs.Views.{nodes_view}
use Rattle.html_flow_convert.specs.Views.{items_view}
use Rattle.typst_html_export.proofs.Fragments.{fragment_is_seen}
use Rattle.typst_html_export.proofs.fragment.export_fragment.Goals as goal

pub returns-clause-spaces : goal.returns-clause-spaces
returns-clause-spaces g c = fragment_is_seen c.args.level (items_view c.args.items.now)
    (nodes_view c.in_ok-nodes.nodes.items) c.in_ok-nodes.ensures.made c.styled_fragment.result
    c.styled_fragment.ensures.reads_back
