use Rattle.std.proofs.lemmas.Result.{err_from_is_err_and}
use Rattle.html_dom_flat.proofs.FirstSiblings.{fewer_after}
use Rattle.typst_html_encode.proofs.RawChildren.{child_written, child_refused, all_written}
use Rattle.typst_html_encode.proofs.raw.write_children.Goals as goal

pub loop-child-smaller : goal.loop-child-smaller
loop-child-smaller c = fewer_after c.in-Some.ensures

pub loop-child-preserved : goal.loop-child-preserved
loop-child-preserved c =
    let wrote = c.in_ok-write_child.ensures in
    child_written c.loop-child.invariant c.in-Some.ensures wrote.appended wrote.clean

pub returns-in_err-write_child : goal.returns-in_err-write_child
returns-in_err-write_child c =
    let failed = err_from_is_err_and c.from_residual.result c.from_residual.ensures.1 in
    record {
      appended = rw failed.1 tt;
      clean = rw failed.1 tt;
      fault = rw (failed.1, failed.2) (child_refused c.loop-child.invariant _ c.in-Some.ensures
          c.in_err-write_child.ensures.fault);
    }

pub returns : goal.returns
returns c =
    let done = all_written c.loop-child.invariant c.in_default.ensures in
    record { appended = done.0; clean = done.1; fault = tt }
