use Rattle.std.proofs.{Common.{◌≡◌, true, eqb, length, [], sym, ◌∙◌, string_bytes}, StrCases.{chars_of_empty}, lemmas.Bool.{eqb-true}}
use Rattle.html_dom_tree.specs.Views.{text_view}
use Rattle.html_page_stack.{proofs.Stacks.{settled_none}, specs.PageViews.{page_of}}
use Rattle.html_page_stack.proofs.page.Page.settle.Goals as goal

pub returns-then-is_empty : goal.returns-then-is_empty
returns-then-is_empty c =
    let long : eqb (length (string_bytes c.args.self.now.text)) 0 ≡ true =
    rw c.as_str.ensures.value at (sym c.is_empty.ensures ∙ c.if-is_empty.true) in
    let none : text_view c.args.self.now.text ≡ [] = chars_of_empty _ (eqb-true _ 0 long) in
    sym (settled_none (page_of c.args.self.now) none)
