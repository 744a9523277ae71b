use Rattle.std.proofs.Common.{ap}
use Rattle.html_dom_tree.specs.Views.{attrs_view}
use Rattle.typst_html_read.proofs.Plain.{bare_plain, bare_open}
use Rattle.typst_html_read.proofs.open.OpenElement.new.Goals as goal

pub invariant_of-result : goal.invariant_of-result
invariant_of-result c =
    let attrs = attrs_view c.args.attrs in
    record {
      plain = bare_plain _ c.args.tag attrs
          (ap (λ v. (record v.0 { attrs = attrs }, v.1)) c.new-element.ensures);
    }

pub returns : goal.returns
returns c =
    let attrs = attrs_view c.args.attrs in
    bare_open _ c.args.tag attrs
    (ap (λ v. (record v.0 { attrs = attrs }, v.1)) c.new-element.ensures)
