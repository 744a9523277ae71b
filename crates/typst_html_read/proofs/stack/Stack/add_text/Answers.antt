use Rattle.std.proofs.{Common.{refl}, lemmas.Result.{on_ok_weaker}}
use Rattle.html_dom_tree.specs.Views.{text_view}
use Rattle.typst_html_encode.specs.Reader.{Open, add_text, with_text}
use Rattle.typst_html_read.proofs.Stacks.{top_changed}
use Rattle.typst_html_read.proofs.stack.Stack.add_text.Goals as goal

pub returns-in-Some : goal.returns-in-Some
returns-in-Some c =
    let found = c.in-Some.ensures.item in
    let held = c.args.self.now.items in
    let text = text_view c.args.text in
    on_ok_weaker c.add_text.result
    (top_changed held.items _ held.ok.0 found.3.0 c.in-Some.top.now found.1 (add_text text)
    (λ (o : Open). record o { children = with_text text o.children }) (λ p ps. refl)
    c.add_text.new.self)
    c.add_text.ensures
