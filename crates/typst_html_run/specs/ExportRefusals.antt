-- A fault of a tree or of items, as the fault that a call returns.
use Rattle.typst_html_encode.specs.{ExportFaults.{number_of, span_of}, declared.fault.ExportFault.{ExportFault}}
use Rattle.typst_html_json.specs.{Refusals.{numbered_fault}, declared.fault.Fault.{Fault}}

abbrev pub export_refusal : ExportFault → Fault
export_refusal fault = numbered_fault (number_of fault) (record { 0 = span_of fault })
