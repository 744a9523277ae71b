use Rattle.std.proofs.{Common.{string_bytes, chars, ap, sym, ◌∙◌}, lemmas.Slice.Eq.{bytes_eq-Decides}}
use Rattle.html_names_core.proofs.Texts.{text_views}
use Rattle.html_dom_tree.proofs.text.same_text.Goals as goal

pub returns : goal.returns
returns c =
    let a = c.args.a.now in
    let b = c.args.b.now in
    let test = bytes_eq-Decides (string_bytes a) (string_bytes b) in
    (λ h. ap chars (test.0 (sym c.eq.ensures ∙ h)), λ e. c.eq.ensures ∙ test.1 (text_views a b e))
