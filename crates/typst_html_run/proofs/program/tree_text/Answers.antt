use Rattle.std.proofs.Common.{map, ap}
use Rattle.typst_html_encode.specs.FaultViews.{export_fault_view}
use Rattle.typst_html_run.{proofs.FirstFaults.{first_fault}, specs.Answers.{fault_refusal}}
use Rattle.typst_html_run.proofs.program.tree_text.Goals as goal

pub returns-in-Ok : goal.returns-in-Ok
returns-in-Ok c = λ root spells.
    let gives = (c.in-Ok.ensures root spells).makes in
    record {
      made = gives.made;
      clean = ap (λ fs. map fault_refusal (map export_fault_view fs)) gives.clean;
      fault = tt;
    }

pub returns-in-Err : goal.returns-in-Err
returns-in-Err c = λ root spells.
    let gives = (c.in-Err.ensures root spells).makes in
    record {
      made = tt;
      clean = tt;
      fault = rw c.fault_of.ensures (first_fault c.in-Err.fault _ gives.fault);
    }
