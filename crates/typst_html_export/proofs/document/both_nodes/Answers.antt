use Rattle.std.proofs.Common.{◌∙◌, ap}
use Rattle.html_dom_tree.specs.Views.{nodes_view}
use Rattle.typst_html_export.proofs.Nodes.{both_view}
use Rattle.typst_html_export.proofs.document.both_nodes.Goals as goal

pub returns : goal.returns
returns c =
    ap nodes_view c.in_ok-append.ensures.items
    ∙ both_view c.args.content.items c.args.notes.items
