use Rattle.std.proofs.{Common.{bytes_eq, chars, codes, map, refl}, lemmas.Slice.Eq.{bytes_eq-Decides}}
use Rattle.std.specs.Char.{to_ascii_lowercase}
use Rattle.html_names_core.proofs.Basics.{is_ascii_is}
use Rattle.html_text.proofs.RawEnds.{same_tests}
use Rattle.html_page_read.proofs.Words.{lowered_down, lowered_up}
use Rattle.html_page_read.proofs.markup.is_doctype.Goals as goal

pub returns : goal.returns
returns c =
    let t = c.args.text.now in
    let ascii = is_ascii_is (codes "doctype") refl in
    let test = c.eq_ignore_ascii_case.ensures.test in
    same_tests c.eq_ignore_ascii_case.result
    (bytes_eq (map to_ascii_lowercase (chars t)) (codes "doctype"))
    (λ e. (bytes_eq-Decides _ _).1 (lowered_down (codes "doctype") t ascii (test.0 e)))
    (λ e. test.1 (lowered_up (codes "doctype") t ascii c.utf8.text
    ((bytes_eq-Decides _ (codes "doctype")).0 e)))
