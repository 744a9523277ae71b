use Rattle.std.proofs.Common.{ap, ◌∙◌}
use Rattle.html_dom_tree.specs.Tree.{none}
use Rattle.html_dom_document.{proofs.Cursors.{numbered_is, numbered-length}, specs.Cursor.{nodes_with_indices}}
use Rattle.html_dom_document.proofs.dom_indices.RefSliceHtmlNodeHtmlSliceExt.iter_with_dom_indices.Goals as goal

pub returns-clause-pairs : goal.returns-clause-pairs
returns-clause-pairs c =
    let nodes = c.args.self.now in
    ap (λ cursor. nodes_with_indices cursor nodes) c.new.ensures ∙ numbered_is nodes none

pub returns-clause-count : goal.returns-clause-count
returns-clause-count c = numbered-length c.new.result c.args.self.now
