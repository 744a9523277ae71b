-- The first fault of a list is the first of a longer one.
use Rattle.std.proofs.Common.{List, ◌++◌, ap}
use Rattle.typst_html_encode.specs.{ExportFaults.{BeginsWith, IsFirst}, declared.fault.ExportFault.{ExportFault}}
use Rattle.typst_html_encode.specs.declared.fault.ExportFault.TheVariants as fault

begins_more : (f : ExportFault) (fs gs : List ExportFault) → BeginsWith f fs →
    BeginsWith f (fs ++ gs)
begins_more f fs gs h = (h.0 ++ gs, ap (λ xs. xs ++ gs) h.1)

pub first_of_more : (e : ExportFault) (fs gs : List ExportFault) → IsFirst e fs →
    IsFirst e (fs ++ gs)
first_of_more fault.OutOfMemory fs gs h = tt
first_of_more e fs gs h = begins_more _ fs gs h
