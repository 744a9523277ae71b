use Rattle.std.proofs.{Common.{◌≡◌, ap, ◌∙◌}, lemmas.Result.{on_ok_weaker}}
use Rattle.html_dom_tree.specs.{Tree.{with_node}, Views.{element_view, node_view}}
use Rattle.typst_html_read.proofs.Plain.{element_plain, element_open, plain_added}
use Rattle.typst_html_read.proofs.open.OpenElement.add_child.Goals as goal

pub invariant_of-self : goal.invariant_of-self
invariant_of-self c =
    let e = element_view c.args.self.now.element in
    let d = element_view c.args.child.element in
    let v = element_view c.add_node.new.element in
    record {
      plain = plain_added c.add_node.result e v c.args.self.now.plain
          (on_ok_weaker c.add_node.result (λ (h : v ≡ with_node (node_view c.from.result) e).
          element_plain e d v (h ∙ ap (λ n. with_node n e) c.from.ensures)
          c.args.self.now.plain c.args.child.plain) c.add_node.ensures.added)
          c.add_node.ensures.kept;
    }

pub returns : goal.returns
returns c =
    let e = element_view c.args.self.now.element in
    let d = element_view c.args.child.element in
    let v = element_view c.add_node.new.element in
    on_ok_weaker c.add_node.result (λ (h : v ≡ with_node (node_view c.from.result) e).
    element_open e d v (h ∙ ap (λ n. with_node n e) c.from.ensures)) c.add_node.ensures.added
