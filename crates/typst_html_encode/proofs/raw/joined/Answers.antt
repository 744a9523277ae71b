use Rattle.std.proofs.Common.{◌++◌, ap, ◌∙◌}
use Rattle.html_dom_flat.specs.Siblings.{siblings_view}
use Rattle.typst_html_encode.specs.Text.{escaped_text, nodes_raw_text}
use Rattle.typst_html_encode.specs.declared.escape.Escaping.TheVariants as escaping
use Rattle.typst_html_encode.proofs.Escapes.{escaped_text-raw}
use Rattle.typst_html_encode.proofs.raw.joined.Goals as goal

pub returns : goal.returns
returns c =
    let all = nodes_raw_text (siblings_view c.args.children.now) in
    let wrote = c.in_ok-write_children.ensures in
    record {
      made = c.into_string.ensures
          ∙ (wrote.appended ∙ (ap (λ o. o ++ escaped_text escaping.Raw all) c.new-out.ensures
          ∙ escaped_text-raw all));
      clean = wrote.clean;
      fault = tt;
    }
