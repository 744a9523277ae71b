use Rattle.std.proofs.{Common.{◌≡◌, false, true, eqb, length, [], sym, ap, ◌∙◌, string_bytes}, StrCases.{chars_of_empty}}
use Rattle.std.proofs.lemmas.{Bool.{eqb-true}, Str.{IsUtf8-string_bytes}, Result.{on_ok_weaker}}
use Rattle.html_dom_tree.specs.Views.{text_view}
use Rattle.html_page_stack.{proofs.Children.{some_text}, specs.OpenElements.{with_text}, specs.PageViews.{element_of}}
use Rattle.html_page_stack.proofs.element.PageElement.add_text.Goals as goal

pub returns-then-is_empty-clause-grown : goal.returns-then-is_empty-clause-grown
returns-then-is_empty-clause-grown c =
    let long : eqb (length (string_bytes c.args.text)) 0 ≡ true =
    rw c.as_str.ensures.value at (sym c.is_empty.ensures ∙ c.if-is_empty.true) in
    let none : text_view c.args.text ≡ [] = chars_of_empty _ (eqb-true _ 0 long) in
    ap (λ t. with_text t (element_of c.args.self.now)) (sym none)

pub returns-clause-grown : goal.returns-clause-grown
returns-clause-grown c =
    let o = element_of c.args.self.now in
    let long : eqb (length (string_bytes c.args.text)) 0 ≡ false =
    rw c.as_str.ensures.value at (sym c.is_empty.ensures ∙ c.if-is_empty.false) in
    on_ok_weaker c.join.result (λ h. ap (λ v. record {
      head = v.0;
      space = o.space;
      destination = o.destination;
      children = v.1;
      behind = o.behind;
    }) h
    ∙ sym (some_text (string_bytes c.args.text) o (IsUtf8-string_bytes c.args.text) long))
    c.join.ensures.joined
