use Rattle.std.proofs.Common.{sym, ap, ◌∙◌}
use Rattle.html_dom_document.specs.{Documents.{given_root, with_root}, Views.{document_view}}
use Rattle.html_dom_tree.specs.{Tree.{ElementView}, Views.{nodes_view}, declared.node.HtmlElement.{HtmlElement}}
use Rattle.html_anchors.proofs.root_children.put_children.Goals as goal

pub returns : goal.returns
returns c =
    let d = document_view c.args.document.now in
    let root : HtmlElement = c.root_mut.result.now in
    let kids = nodes_view c.args.children.items in
    c.root_mut.ensures.written (record root { children = c.args.children })
    ∙ ap (λ (e : ElementView). record d { output = with_root d.output (e.0, kids) })
    (sym (ap given_root c.root_mut.ensures.value))
