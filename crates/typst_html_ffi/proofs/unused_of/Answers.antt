use Rattle.std.proofs.Common.{refl}
use Rattle.typst_html_ffi.proofs.unused_of.Goals as goal

pub returns-in-Some : goal.returns-in-Some
returns-in-Some c = rw (← c.limit_of.ensures, c.in-Some.is) c.unused_of_document.ensures

pub returns-in-None : goal.returns-in-None
returns-in-None c = rw (← c.limit_of.ensures, c.in-None.is) refl
