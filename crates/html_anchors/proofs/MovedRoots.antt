-- A document whose root's children are taken out, and others are put in.
use Rattle.std.proofs.Common.{◌≡◌, ℕ, zero, suc, refl, ap}
use Rattle.html_dom_document.specs.Documents.{DocumentView, element_at_index, given_root, with_element}
use Rattle.html_anchors.specs.MadeDocuments.{with_children}
use Rattle.html_dom_tree.specs.Tree.{Head, NodesView, none, node}

abbrev head_at : NodesView → ℕ → Head
head_at ns i = (given_root (element_at_index ns i)).0

put_twice : (ns : NodesView) (i : ℕ) (as' bs : NodesView) →
    let put = with_element ns i (head_at ns i, as') in
    with_element put i (head_at put i, bs) ≡ with_element ns i (head_at ns i, bs)
put_twice none i as' bs = refl
put_twice (node n ns) zero as' bs = refl
put_twice (node n ns) (suc i) as' bs = ap (node n) (put_twice ns i as' bs)

pub put_again : (d : DocumentView) (as' bs : NodesView) →
    with_children bs (with_children as' d) ≡ with_children bs d
put_again d as' bs =
    ap (λ ns. record d { output = record d.output { nodes = ns } })
    (put_twice d.output.nodes d.output.root as' bs)
