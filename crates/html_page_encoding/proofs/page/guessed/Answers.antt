use Rattle.std.proofs.Common.{sym}
use Rattle.html_page_encoding.proofs.Texts.{other_guessed, utf8_guessed}
use Rattle.html_page_encoding.proofs.page.guessed.Goals as goal

pub returns-in-Ok : goal.returns-in-Ok
returns-in-Ok c = sym (utf8_guessed c.args.page.now c.in-Ok.ensures.cases.1)

pub returns-in-Err : goal.returns-in-Err
returns-in-Err c = sym (other_guessed c.args.page.now c.in-Err.ensures.cases.0)
