use Rattle.std.proofs.Common.{ap, eqb, length, not, string_bytes, sym, ◌∙◌}
use Rattle.std.proofs.lemmas.Str.{IsUtf8-string_bytes}
use Rattle.html_page_stack.proofs.Children.{empty_by}
use Rattle.html_page_stack.proofs.page.Page.has_text.Goals as goal

pub returns : goal.returns
returns c =
    let bytes = string_bytes c.args.self.now.text in
    ap not (c.is_empty.ensures ∙ ap (λ b. eqb (length b) 0) c.as_str.ensures.value)
    ∙ sym (ap not (empty_by bytes (IsUtf8-string_bytes c.args.self.now.text)))
