use Rattle.std.proofs.Common.{bytes_eq, map, ap, sym, ◌∙◌}
use Rattle.std.{proofs.lemmas.Slice.Eq.{bytes_eq-Decides}, specs.Char.{to_ascii_lowercase}}
use Rattle.html_text.proofs.RawEnds.{same_tests}
use Rattle.html_page_encoding.proofs.encoding.is_same.Goals as goal

pub returns : goal.returns
returns c =
    let known = map to_ascii_lowercase c.args.known.now in
    let label = map to_ascii_lowercase c.args.label.now in
    let own = ap (map to_ascii_lowercase) c.as_bytes.ensures.value in
    let test = c.eq_ignore_ascii_case.ensures.test in
    same_tests c.eq_ignore_ascii_case.result (bytes_eq known label)
    (λ e. (bytes_eq-Decides known label).1 (sym own ∙ test.0 e))
    (λ e. test.1 (own ∙ (bytes_eq-Decides known label).0 e))
