use Rattle.std.proofs.{Common.{◌≡◌, [], ◌++◌, sym, ap, ◌∙◌}, lemmas.List.{append-nil}}
use Rattle.html_dom_tree.specs.Views.{text_view}
use Rattle.typst_html_encode.specs.ExportFaults.{text_faults}
use Rattle.typst_html_encode.specs.declared.escape.Escaping.TheVariants as escaping
use Rattle.typst_html_encode.{proofs.Escapes.{value-empty}, specs.Text.{value_text}}
use Rattle.typst_html_encode.proofs.tags.write_value.Goals as goal

pub returns-then-is_empty : goal.returns-then-is_empty
returns-then-is_empty c =
    let none : text_view c.args.value.now ≡ [] =
    value-empty _ (rw c.as_str.ensures.value at (sym c.is_empty.ensures ∙ c.if-is_empty.true)) in
    record {
      appended = sym (append-nil c.args.out.now)
          ∙ ap (λ v. c.args.out.now ++ value_text v) (sym none);
      clean = ap (text_faults escaping.Value c.args.span.0) none;
      fault = tt;
    }
