use Rattle.std.proofs.Common.{◌++◌, ◌∙◌, ap, subst, sym}
use Rattle.html_dom_tree.specs.Views.{nodes_view}
use Rattle.html_flow_convert.specs.{Depth.{items_too_deep}, Items.{no_items}, Views.{items_view}}
use Rattle.typst_html_export.proofs.{Assembling.{alone_faults}, FaultsInOrder.{around_items}}
use Rattle.typst_html_export.specs.{Assembled.{depth_faults, document_nodes, document_outline, outline_faults}, Assembles.{GivesDocument}}
use Rattle.typst_html_export.specs.OwnRoots.{have_own_root, is_root}
use Rattle.typst_html_export.proofs.document.has_own_root.Goals as goal

pub returns : goal.returns
returns c =
    let items = items_view c.args.items.now in
    subst (λ fs. GivesDocument (λ own. own) c.have_root.result (have_own_root items)
    (depth_faults (items_too_deep 0 c.args.limit items) ++ fs))
    (sym (alone_faults c.args.limit (document_nodes items)))
    (around_items (λ own. own) c.args.limit (λ ns. is_root (document_outline ns))
    (λ ns. outline_faults (document_outline ns) no_items) items (nodes_view c.deref.result.now)
    c.have_root.result (ap nodes_view c.deref.ensures.value ∙ c.in_ok-nodes.ensures.made)
    c.in_ok-nodes.ensures.clean c.have_root.ensures)
