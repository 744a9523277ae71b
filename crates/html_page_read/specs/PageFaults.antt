-- The numbers of faults of pages.
use Rattle.std.specs.Prelude.{ℕ}
use Rattle.html_page_stack.specs.PageRefusals.{refusal_number}
use Rattle.html_page_read.specs.declared.fault.PageFault.{PageFault}
use Rattle.html_page_read.specs.declared.fault.PageFault.TheVariants as fault

abbrev pub number_of : PageFault → ℕ
number_of fault.OutOfMemory = 0
number_of (fault.UnknownLabel label place) = 25
number_of (fault.NotText place) = 25
number_of (fault.Refused refusal place) = refusal_number refusal
