use Rattle.std.proofs.Common.{refl}
use Rattle.typst_html_ffi.proofs.text_of.Goals as goal

pub returns-in-Some : goal.returns-in-Some
returns-in-Some c = rw (← c.wanted_task.ensures, c.in-Some.is) c.text_of_input.ensures

pub returns-in-None : goal.returns-in-None
returns-in-None c = rw (← c.wanted_task.ensures, c.in-None.is) refl
