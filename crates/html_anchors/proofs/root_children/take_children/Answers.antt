use Rattle.std.proofs.Common.{◌≡◌, sym, ap, ◌∙◌}
use Rattle.html_dom_document.specs.{Documents.{document_root, given_root, with_root}, Views.{document_view}}
use Rattle.html_dom_tree.specs.{Tree.{ElementView, none}, Views.{element_view, nodes_view}, declared.node.HtmlElement.{HtmlElement}}
use Rattle.html_anchors.proofs.root_children.take_children.Goals as goal

pub returns : goal.returns
returns c =
    let d = document_view c.args.document.now in
    let root : HtmlElement = c.root_mut.result.now in
    let bare : HtmlElement = record root { children = c.replace.new.dest } in
    let top : element_view root ≡ document_root d = sym (ap given_root c.root_mut.ensures.value) in
    record {
      children = ap (λ v. nodes_view v.items) c.replace.ensures.value ∙ ap (λ (e : ElementView). e.1) top;
      rest = c.root_mut.ensures.written bare
          ∙ (ap (λ ns. record d { output = with_root d.output ((element_view root).0, nodes_view ns) })
          (ap (λ v. v.items) c.replace.ensures.after ∙ c.new.ensures.items)
          ∙ ap (λ (e : ElementView). record d { output = with_root d.output (e.0, none) }) top);
    }
