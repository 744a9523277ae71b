use Rattle.std.proofs.{Common.{ap}, lemmas.Result.{err_from_is_err_and}}
use Rattle.typst_html_export.{proofs.Firsts.{depth_first}, specs.Assembled.{depth_faults}}
use Rattle.typst_html_export.proofs.document.converted.Goals as goal

pub returns : goal.returns
returns c = record {
  made = c.in_ok-nodes.ensures.made;
  clean = ap depth_faults c.in_ok-nodes.ensures.clean;
  fault = tt;
}

pub returns-in_err-nodes : goal.returns-in_err-nodes
returns-in_err-nodes c =
    let failed = err_from_is_err_and c.from_residual.result c.from_residual.ensures.1 in
    record {
      made = rw failed.1 tt;
      clean = rw failed.1 tt;
      fault = rw (failed.1, failed.2) (depth_first _ _ c.in_err-nodes.ensures.fault);
    }
