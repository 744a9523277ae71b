use Rattle.std.proofs.{Common.{◌≡◌, false, true, eqb, length, [], sym, ap, ◌∙◌, string_bytes}, StrCases.{chars_of_empty}}
use Rattle.std.proofs.lemmas.{Bool.{eqb-true}, Result.{on_ok_weaker}, Str.{IsUtf8-string_bytes}}
use Rattle.html_dom_tree.specs.{Tree.{with_node}, Views.{element_view, node_view, text_view}}
use Rattle.typst_html_encode.specs.Reader.{with_text}
use Rattle.typst_html_read.{proofs.Plain.{plain_added, text_plain, text_open, some_text}, specs.OpenViews.{open_of}}
use Rattle.typst_html_read.proofs.open.OpenElement.add_text.Goals as goal

pub invariant_of-self : goal.invariant_of-self
invariant_of-self c =
    let e = element_view c.args.self.now.element in
    let v = element_view c.add_node.new.element in
    record {
      plain = plain_added c.add_node.result e v c.args.self.now.plain
          (on_ok_weaker c.add_node.result (λ (h : v ≡ with_node (node_view c.text.result) e).
          text_plain e v (text_view c.args.text) (h ∙ ap (λ n. with_node n e) c.text.ensures)
          c.args.self.now.plain) c.add_node.ensures.added)
          c.add_node.ensures.kept;
    }

pub returns-in_ok-add_node : goal.returns-in_ok-add_node
returns-in_ok-add_node c =
    let e = element_view c.args.self.now.element in
    let o = open_of c.args.self.now in
    let t = text_view c.args.text in
    let long : eqb (length (string_bytes c.args.text)) 0 ≡ false =
    ap (λ n. eqb n 0) (sym c.args.text.bytes.ok.0)
    ∙ (sym c.is_empty.ensures ∙ c.if-not-is_empty.true) in
    text_open e _ t (c.in_ok-add_node.ensures.added ∙ ap (λ n. with_node n e) c.text.ensures)
    ∙ ap (λ ps. record o { children = ps })
    (sym (some_text (string_bytes c.args.text) o.children (IsUtf8-string_bytes c.args.text) long))

pub returns-else-not-is_empty : goal.returns-else-not-is_empty
returns-else-not-is_empty c =
    let o = open_of c.args.self.now in
    let long : eqb (length (string_bytes c.args.text)) 0 ≡ true =
    ap (λ n. eqb n 0) (sym c.args.text.bytes.ok.0)
    ∙ (sym c.is_empty.ensures ∙ c.if-not-is_empty.false) in
    let none : text_view c.args.text ≡ [] = chars_of_empty _ (eqb-true _ 0 long) in
    ap (λ t. record o { children = with_text t o.children }) (sym none)
