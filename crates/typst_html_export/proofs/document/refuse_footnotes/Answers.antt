use Rattle.std.proofs.Common.{[]}
use Rattle.typst_html_export.proofs.Notes.{refused}
use Rattle.typst_html_export.proofs.document.refuse_footnotes.Goals as goal

pub returns : goal.returns
returns c = record {
  made = tt;
  clean = tt;
  fault = ([], refused c.args.footnotes.now _ c.if-is_empty.ensures c.in_ok-item_spans.ensures);
}
