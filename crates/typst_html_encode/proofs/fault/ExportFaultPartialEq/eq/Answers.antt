use Rattle.html_names_core.proofs.Equals.{same_result}
use Rattle.typst_html_encode.specs.FaultViews.{export_fault_view, export_fault_discrete}
use Rattle.typst_html_encode.proofs.fault.ExportFaultPartialEq.eq.Goals as goal

pub returns : goal.returns
returns c = same_result export_fault_view export_fault_discrete c.args.self.now c.args.other.now
    c.same_fault.result c.same_fault.ensures
