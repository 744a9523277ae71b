use Rattle.std.proofs.{Common.{refl}, lemmas.Result.{on_ok_weaker}}
use Rattle.typst_html_read.{proofs.Stacks.{top_changed}, specs.OpenViews.{add_child, open_of, with_child}}
use Rattle.typst_html_read.proofs.stack.Stack.add_child.Goals as goal

pub returns-in-Some : goal.returns-in-Some
returns-in-Some c =
    let found = c.in-Some.ensures.item in
    let held = c.args.self.now.items in
    let child = open_of c.args.child in
    on_ok_weaker c.add_child.result
    (top_changed held.items _ held.ok.0 found.3.0 c.in-Some.top.now found.1 (add_child child)
    (with_child child) (λ p ps. refl) c.add_child.new.self)
    c.add_child.ensures
