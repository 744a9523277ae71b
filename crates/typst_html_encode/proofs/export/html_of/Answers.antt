use Rattle.html_dom_tree.specs.Views.{element_view}
use Rattle.typst_html_encode.proofs.export.html_of.Goals as goal

pub returns-clause-makes : goal.returns-clause-makes
returns-clause-makes g c =
    (c.tree_html.ensures (element_view c.args.root) c.in_ok-tree.ensures).makes

pub returns-clause-reads_back : goal.returns-clause-reads_back
returns-clause-reads_back g c =
    (c.tree_html.ensures (element_view c.args.root) c.in_ok-tree.ensures).reads_back

pub returns-clause-reads_indented : goal.returns-clause-reads_indented
returns-clause-reads_indented g c =
    (c.tree_html.ensures (element_view c.args.root) c.in_ok-tree.ensures).reads_indented
