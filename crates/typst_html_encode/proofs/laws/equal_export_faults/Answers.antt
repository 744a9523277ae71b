use Rattle.html_names_core.proofs.Equals.{same_law}
use Rattle.typst_html_encode.specs.FaultViews.{export_fault_view, export_fault_discrete}
use Rattle.typst_html_encode.proofs.laws.equal_export_faults.Goals as goal

pub returns : goal.returns
returns c =
    same_law export_fault_view export_fault_discrete c.args.a.now c.args.b.now _ c.eq.ensures
