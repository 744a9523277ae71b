-- The numbers of refusals of pages. Numbers below 26 belong to faults of writing; one of these also
-- numbers a refusal.
use Rattle.std.specs.Prelude.{ℕ}
use Rattle.html_page_stack.specs.declared.fault.PageRefusal.{PageRefusal}
use Rattle.html_page_stack.specs.declared.fault.PageRefusal.TheVariants as refusal

abbrev pub refusal_number : PageRefusal → ℕ
refusal_number refusal.TooDeep = 8
refusal_number refusal.TooManyAttributes = 28
refusal_number refusal.TooManyCopies = 40
