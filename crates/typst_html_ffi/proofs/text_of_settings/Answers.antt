use Rattle.std.proofs.Common.{refl}
use Rattle.typst_html_ffi.proofs.text_of_settings.Goals as goal

pub returns-in-Some-clause-text : goal.returns-in-Some-clause-text
returns-in-Some-clause-text c =
    rw (← c.wanted_settings.ensures, c.in-Some.is) c.text_of_document.ensures.text

pub returns-in-Some-clause-dead : goal.returns-in-Some-clause-dead
returns-in-Some-clause-dead c =
    rw (← c.wanted_settings.ensures, c.in-Some.is) c.text_of_document.ensures.dead

pub returns-in-None-clause-text : goal.returns-in-None-clause-text
returns-in-None-clause-text c = rw (← c.wanted_settings.ensures, c.in-None.is) refl
