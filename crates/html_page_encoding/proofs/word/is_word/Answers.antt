use Rattle.std.proofs.Common.{bytes_eq, map, sym, ap, ◌∙◌}
use Rattle.std.{proofs.lemmas.Slice.Eq.{bytes_eq-Decides}, specs.Char.{to_ascii_lowercase}}
use Rattle.html_text.proofs.RawEnds.{same_tests}
use Rattle.html_page_encoding.specs.Classes.{is_word}
use Rattle.html_page_encoding.proofs.word.is_word.Goals as goal

pub returns : goal.returns
unfolding is_word
returns c =
    let word = c.args.word.now in
    let small = ap (map to_ascii_lowercase) c.as_bytes.ensures.value ∙ c.requires in
    let test = c.eq_ignore_ascii_case.ensures.test in
    let lowered = map to_ascii_lowercase c.args.bytes.now in
    same_tests c.eq_ignore_ascii_case.result (bytes_eq lowered word)
    (λ e. (bytes_eq-Decides lowered word).1 (test.0 e ∙ small))
    (λ e. test.1 ((bytes_eq-Decides lowered word).0 e ∙ sym small))
