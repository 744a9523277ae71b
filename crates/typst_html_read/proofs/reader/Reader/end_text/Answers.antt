use Rattle.std.proofs.{Common.{◌≡◌, true, eqb, length, [], sym, ap, ◌∙◌, string_bytes}, StrCases.{chars_of_empty}}
use Rattle.std.proofs.lemmas.{Bool.{eqb-true}, Result.{on_ok_weaker}}
use Rattle.html_dom_tree.specs.Views.{text_view}
use Rattle.typst_html_encode.specs.Reader.{add_text}
use Rattle.typst_html_read.{proofs.EndTags.{no_text}, specs.OpenViews.{stack_of}}
use Rattle.typst_html_read.proofs.reader.Reader.end_text.Goals as goal

pub returns-then-is_empty : goal.returns-then-is_empty
returns-then-is_empty c =
    let text = c.args.self.now.text in
    let stack = stack_of c.args.self.now.stack in
    let long : eqb (length (string_bytes text)) 0 ≡ true =
    ap (λ n. eqb n 0) (sym text.bytes.ok.0) ∙ (sym c.is_empty.ensures ∙ c.if-is_empty.true) in
    let none : text_view text ≡ [] = chars_of_empty _ (eqb-true _ 0 long) in
    no_text stack ∙ ap (λ t. add_text t stack) (sym none)

pub returns : goal.returns
returns c =
    let stack = stack_of c.args.self.now.stack in
    on_ok_weaker c.add_text.result (λ e. e ∙ ap (λ t. add_text t stack) c.take-text.ensures.taken)
    c.add_text.ensures
