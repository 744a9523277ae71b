use Rattle.std.proofs.lemmas.Result.{on_ok_weaker}
use Rattle.html_dom_tree.specs.{Views.{node_view}, declared.node.HtmlNode.TheVariants.{Element}}
use Rattle.html_page_stack.proofs.Currents.{last_changed, last_known}
use Rattle.html_page_stack.specs.OpenElements.{with_last_child}
use Rattle.html_page_stack.proofs.stack.Stack.add_child.Goals as goal

pub invariant_of-self-in-Some : goal.invariant_of-self-in-Some
invariant_of-self-in-Some c =
    let found = c.in-Some.ensures.item in
    let held = c.args.self.now.items in
    record {
      known = last_known held.items _ held.ok.0 found.3.0 c.in-Some.element.now found.1
          c.add_child.new.self c.add_child.ensures.known c.args.self.now.known;
    }

pub returns-in-Some : goal.returns-in-Some
returns-in-Some c =
    let found = c.in-Some.ensures.item in
    let held = c.args.self.now.items in
    on_ok_weaker c.add_child.result
    (last_changed held.items _ held.ok.0 found.3.0 c.in-Some.element.now found.1
    (with_last_child (node_view (Element c.args.child))) c.add_child.new.self)
    c.add_child.ensures.grown
