-- The first fault of a list is the first of a longer one, and of one after no fault. Of no fault at
-- all none is the first.
use Rattle.std.proofs.Common.{◌≡◌, ℕ, List, [], ◌++◌, map, refl, ap, sym, subst, Result, Ok, Err, IfErr}
use Rattle.html_flow_faults.specs.{FlowFaults.{IsFirst}, declared.fault.FlowFault.{FlowFault}}
use Rattle.html_flow_faults.specs.declared.fault.FlowFault.TheVariants as flow
use Rattle.typst_html_encode.specs.{Conversions.{of_flow}, FaultViews.{ExportFaultView, too_deep, IsFirstView}}
use Rattle.typst_html_encode.specs.declared.fault.ExportFault.{ExportFault}
use Rattle.typst_html_encode.specs.declared.fault.ExportFault.TheVariants as fault
use Rattle.typst_html_export.specs.{Assembled.{depth_faults}, Assembles.{FailsByMemoryAlone}}

pub first_after_none : (e : ExportFault) (fs gs : List ExportFaultView) → fs ≡ []
    → IsFirstView e gs → IsFirstView e (fs ++ gs)
first_after_none e fs gs none h = subst (λ xs. IsFirstView e (xs ++ gs)) (sym none) h

pub depth_first : (f : FlowFault) (spans : List ℕ) → IsFirst f spans
    → IsFirstView (of_flow f) (depth_faults spans)
depth_first flow.OutOfMemory spans h = tt
depth_first (flow.TooDeep span) spans h = (map too_deep h.0, ap (map too_deep) h.1)

-- out of memory may come before any
pub memory_first : (e : ExportFault) (fs : List ExportFaultView) → e ≡ fault.OutOfMemory
    → IsFirstView e fs
memory_first e fs is = subst (λ f. IsFirstView f fs) (sym is) tt

pub first_past_none : {A : Type 0} (r : Result A ExportFault) (fs gs : List ExportFaultView)
    → fs ≡ [] → IfErr r (λ e. IsFirstView e (fs ++ gs)) → IfErr r (λ e. IsFirstView e gs)
first_past_none r fs gs none h = subst (λ xs. IfErr r (λ e. IsFirstView e (xs ++ gs))) none h

pub none_after_none : (fs gs : List ExportFaultView) → fs ≡ [] → gs ≡ [] → fs ++ gs ≡ []
none_after_none fs gs p q = rw (p, q) refl

pub memory_alone : (e : ExportFault) (fs : List ExportFaultView) → fs ≡ [] → IsFirstView e fs
    → e ≡ fault.OutOfMemory
memory_alone fault.OutOfMemory fs none h = refl
memory_alone e fs none h = let first = h.1 in cc

pub fails_by_memory_alone : {A : Type 0} (r : Result A ExportFault) (fs : List ExportFaultView)
    → fs ≡ [] → IfErr r (λ e. IsFirstView e fs) → FailsByMemoryAlone r
fails_by_memory_alone (Ok a) fs none h = tt
fails_by_memory_alone (Err e) fs none h = memory_alone e fs none h
