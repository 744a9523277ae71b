use Rattle.std.proofs.Common.{ap, ◌∙◌, map}
use Rattle.html_dom_tree.specs.Tree.{none}
use Rattle.html_dom_document.proofs.DomWalks.{indices_are}
use Rattle.html_dom_document.proofs.siblings.numbered.Goals as goal

pub returns : goal.returns
returns c =
    ap (map (λ pair. pair.1)) c.iter_with_dom_indices.ensures.pairs
    ∙ indices_are none c.args.nodes.now
