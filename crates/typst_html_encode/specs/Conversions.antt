-- Faults of the layers below, and of writers of frames, as faults of an export: out of memory stays
-- out of memory.
use Rattle.html_names_core.specs.declared.fault.NameFault.{NameFault}
use Rattle.html_names_core.specs.declared.fault.NameFault.TheVariants as name
use Rattle.html_values_css.specs.declared.cast_fault.CastFault.{CastFault}
use Rattle.html_values_css.specs.declared.cast_fault.CastFault.TheVariants as cast
use Rattle.html_flow_faults.specs.declared.construct_fault.ConstructFault.{ConstructFault}
use Rattle.html_flow_faults.specs.declared.construct_fault.ConstructFault.TheVariants as construct
use Rattle.html_flow_faults.specs.declared.fault.FlowFault.{FlowFault}
use Rattle.html_flow_faults.specs.declared.fault.FlowFault.TheVariants as flow
use Rattle.typst_html_encode.specs.declared.frame.FrameFault.{FrameFault}
use Rattle.typst_html_encode.specs.declared.frame.FrameFault.TheVariants as frame
use Rattle.typst_html_encode.specs.declared.fault.ExportFault.{ExportFault}
use Rattle.typst_html_encode.specs.declared.fault.ExportFault.TheVariants.{OutOfMemory, TooDeep, FrameRefused, Name, Cast, Construct}

abbrev pub of_flow : FlowFault → ExportFault
of_flow flow.OutOfMemory = OutOfMemory
of_flow (flow.TooDeep span) = TooDeep span

-- a refused frame gets the span 0
abbrev pub of_frame : FrameFault → ExportFault
of_frame frame.OutOfMemory = OutOfMemory
of_frame frame.Refused = FrameRefused (record { 0 = 0 })

abbrev pub of_name : NameFault → ExportFault
of_name name.OutOfMemory = OutOfMemory
of_name fault = Name fault

abbrev pub of_cast : CastFault → ExportFault
of_cast cast.OutOfMemory = OutOfMemory
of_cast fault = Cast fault

abbrev pub of_construct : ConstructFault → ExportFault
of_construct construct.OutOfMemory = OutOfMemory
of_construct fault = Construct fault
