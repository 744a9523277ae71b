use Rattle.std.{proofs.Common.{◌∙◌}, proofs.lemmas.Result.{on_ok_weaker}}
use Rattle.html_dom_tree.specs.Views.{text_view}
use Rattle.html_page_stack.proofs.Currents.{last_changed, last_known, text_in_current}
use Rattle.html_page_stack.specs.{ElementViews.{list_of}, OpenElements.{with_text}}
use Rattle.html_page_stack.proofs.stack.Stack.add_text.Goals as goal

pub invariant_of-self-in-Some : goal.invariant_of-self-in-Some
invariant_of-self-in-Some c =
    let found = c.in-Some.ensures.item in
    let held = c.args.self.now.items in
    record {
      known = last_known held.items _ held.ok.0 found.3.0 c.in-Some.element.now found.1
          c.add_text.new.self c.add_text.ensures.known c.args.self.now.known;
    }

pub returns-in-Some : goal.returns-in-Some
returns-in-Some c =
    let found = c.in-Some.ensures.item in
    let held = c.args.self.now.items in
    let text = text_view c.args.text in
    on_ok_weaker c.add_text.result
    (λ h. last_changed held.items _ held.ok.0 found.3.0 c.in-Some.element.now found.1
    (with_text text) c.add_text.new.self h ∙ text_in_current text (list_of held.items))
    c.add_text.ensures.grown
