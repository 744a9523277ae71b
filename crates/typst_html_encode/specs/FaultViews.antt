-- The pure values of faults, and when one is the first of a list.
use Rattle.std.specs.Prelude.{◌≡◌, ℕ, List, ◌∷◌, map}
use native.Mathlib.Decide.{ℕ_discrete}
use Rattle.html_names_core.specs.{Equal.{text_discrete}, NameFaults.{name_fault_discrete}, declared.fault.NameFault.{NameFault}}
use Rattle.html_values_css.specs.{CastFaults.{cast_fault_discrete}, declared.cast_fault.CastFault.{CastFault}}
use Rattle.html_flow_faults.specs.ConstructFaults.{ConstructFaultView, construct_fault_view, construct_fault_discrete}
use Rattle.html_dom_tree.specs.declared.span.Span.{Span}
use Rattle.typst_html_encode.specs.declared.fault.ExportFault.{ExportFault}
use Rattle.typst_html_encode.specs.declared.fault.ExportFault.TheVariants as fault

pub data ExportFaultView : Type 0 where
  out_of_memory : ExportFaultView
  too_deep : (span : ℕ) → ExportFaultView
  not_alone : (name : List ℕ) (span : ℕ) → ExportFaultView
  footnotes : (spans : List ℕ) → ExportFaultView
  unencodable : (c span : ℕ) → ExportFaultView
  void_children : (span : ℕ) → ExportFaultView
  raw_child : (span : ℕ) → ExportFaultView
  raw_closing : (span : ℕ) → ExportFaultView
  frame_refused : (span : ℕ) → ExportFaultView
  name_fault : NameFault → ExportFaultView
  cast_fault : CastFault → ExportFaultView
  construct_fault : ConstructFaultView → ExportFaultView
  deriving Discrete as ExportFaultView-discrete

abbrev pub spans_view : List Span → List ℕ
spans_view = map (λ span. span.0)

abbrev pub export_fault_view : ExportFault → ExportFaultView
export_fault_view fault.OutOfMemory = out_of_memory
export_fault_view (fault.TooDeep span) = too_deep span.0
export_fault_view (fault.NotAlone tag span) = not_alone tag span.0
export_fault_view (fault.Footnotes spans) = footnotes (spans_view spans.items)
export_fault_view (fault.Unencodable c span) = unencodable c span.0
export_fault_view (fault.VoidChildren span) = void_children span.0
export_fault_view (fault.RawChild span) = raw_child span.0
export_fault_view (fault.RawClosing span) = raw_closing span.0
export_fault_view (fault.FrameRefused span) = frame_refused span.0
export_fault_view (fault.Name f) = name_fault f
export_fault_view (fault.Cast f) = cast_fault f
export_fault_view (fault.Construct f) = construct_fault (construct_fault_view f)

pub export_fault_discrete : Discrete ExportFaultView
export_fault_discrete = ExportFaultView-discrete ℕ_discrete text_discrete name_fault_discrete
    cast_fault_discrete construct_fault_discrete

-- the reported fault is the first of the list, unless memory ran out
abbrev pub IsFirstView : ExportFault → List ExportFaultView → Type 0
IsFirstView fault.OutOfMemory fs = Unit {0}
IsFirstView f fs = (rest : List ExportFaultView) × (fs ≡ export_fault_view f ∷ rest)
