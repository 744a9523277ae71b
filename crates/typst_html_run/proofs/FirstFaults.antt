-- The first fault of a tree or of items, as the first refusal.
use Rattle.std.proofs.Common.{◌≡◌, ◌==◌, ℕ, List, [], ◌∷◌, map, true, false, if◌then◌else◌, refl, sym, ap, ◌∙◌}
use Rattle.html_names_core.specs.NameFaults as name
use Rattle.html_values_css.specs.CastFaults as cast
use Rattle.html_values_css.specs.declared.cast_fault.CastFault.{CastFault}
use Rattle.html_flow_faults.specs.ConstructFaults as construct
use Rattle.html_flow_faults.specs.ConstructFaults.{construct_fault_view, faults_view, cast_faults}
use Rattle.html_flow_faults.specs.declared.construct_fault.ConstructFault.{ConstructFault}
use Rattle.html_flow_faults.specs.declared.construct_fault.ConstructFault.TheVariants as kind
use Rattle.html_dom_tree.specs.declared.span.Span.{Span}
use Rattle.typst_html_encode.specs.ExportFaults as export
use Rattle.typst_html_encode.specs.FaultViews.{ExportFaultView, export_fault_view, spans_view, IsFirstView}
use Rattle.typst_html_encode.specs.declared.fault.ExportFault.{ExportFault}
use Rattle.typst_html_encode.specs.declared.fault.ExportFault.TheVariants as fault
use Rattle.typst_html_run.specs.{Answers.{construct_refusal, fault_refusal, first_span}, ExportRefusals.{export_refusal}}
use Rattle.typst_html_json.specs.NameRefusals as names
use Rattle.typst_html_json.specs.{Refusals.{IsFirst, numbered_fault}, declared.fault.Fault.TheVariants.{OutOfMemory, Refused}}

same_first : (spans : List Span) → export.first_span spans ≡ first_span (spans_view spans)
same_first [] = refl
same_first (span ∷ spans) = refl

refused_first : (r : names.Refusal) (f : ExportFaultView) (fs : List ExportFaultView)
    → (rest : List ExportFaultView) × (fs ≡ f ∷ rest) → r ≡ fault_refusal f
    → (rest : List names.Refusal) × (map fault_refusal fs ≡ r ∷ rest)
refused_first r f fs h is = (
  map fault_refusal h.0,
  ap (map fault_refusal) h.1 ∙ ap (λ one. one ∷ map fault_refusal h.0) (sym is),
)

seen_rest : (e : ExportFault) (fs : List ExportFault)
    → (rest : List ExportFault) × (fs ≡ e ∷ rest)
    → (rest : List ExportFaultView) × (map export_fault_view fs ≡ export_fault_view e ∷ rest)
seen_rest e fs h = (map export_fault_view h.0, ap (map export_fault_view) h.1)

-- a refusal of a number and a span that are the first of the list; 0 is out of memory
numbered_first : (n span : ℕ) (rs : List names.Refusal)
    → (rest : List names.Refusal) × (rs ≡ (n, span) ∷ rest)
    → IsFirst (numbered_fault n (record { 0 = span })) rs
numbered_first n span rs h =
    elim (n == 0) as (λ v. IsFirst (if v then OutOfMemory else Refused n (record { 0 = span })) rs)
    [ true ↦ tt | false ↦ h ]

casts_are : (fs : List (CastFault × Span))
    → (construct.first_fault_number fs, construct.first_fault_span fs)
    ≡ construct_refusal (cast_faults (faults_view fs))
casts_are [] = refl
casts_are (f ∷ fs) = refl

construct_is : (f : ConstructFault)
    → (construct.number_of f, construct.span_of f) ≡ construct_refusal (construct_fault_view f)
construct_is kind.OutOfMemory = refl
construct_is (kind.Casts fs) = casts_are fs.items
construct_is (kind.BodyKind span) = refl

pub first_fault_view : (e : ExportFault) (fs : List ExportFaultView) → IsFirstView e fs
    → IsFirst (export_refusal e) (map fault_refusal fs)
first_fault_view fault.OutOfMemory fs h = tt
first_fault_view (fault.TooDeep span) fs h = refused_first (8, span.0) _ fs h refl
first_fault_view (fault.NotAlone tag span) fs h = refused_first (9, span.0) _ fs h refl
first_fault_view (fault.Footnotes spans) fs h =
    refused_first (10, export.first_span spans.items) _ fs h
    (ap (λ span. (10, span)) (same_first spans.items))
first_fault_view (fault.Unencodable c span) fs h = refused_first (11, span.0) _ fs h refl
first_fault_view (fault.VoidChildren span) fs h = refused_first (12, span.0) _ fs h refl
first_fault_view (fault.RawChild span) fs h = refused_first (13, span.0) _ fs h refl
first_fault_view (fault.RawClosing span) fs h = refused_first (14, span.0) _ fs h refl
first_fault_view (fault.FrameRefused span) fs h = refused_first (15, span.0) _ fs h refl
first_fault_view (fault.Name f) fs h =
    numbered_first (name.number_of f) 0 _ (refused_first (name.number_of f, 0) _ fs h refl)
first_fault_view (fault.Cast f) fs h =
    numbered_first (cast.number_of f) 0 _ (refused_first (cast.number_of f, 0) _ fs h refl)
first_fault_view (fault.Construct f) fs h =
    numbered_first (construct.number_of f) (construct.span_of f) _
    (refused_first (construct.number_of f, construct.span_of f) _ fs h (construct_is f))

seen_first : (e : ExportFault) (fs : List ExportFault) → export.IsFirst e fs
    → IsFirstView e (map export_fault_view fs)
seen_first fault.OutOfMemory fs h = tt
seen_first e fs h = seen_rest _ fs h

pub first_fault : (e : ExportFault) (fs : List ExportFault) → export.IsFirst e fs
    → IsFirst (export_refusal e) (map fault_refusal (map export_fault_view fs))
first_fault e fs h = first_fault_view e (map export_fault_view fs) (seen_first e fs h)

pub ruleset first_faults = (first_fault, first_fault_view)
