use Rattle.std.proofs.Common.{◌≡◌, ◌≤◌, false, inl, inr, chars, eqb, leb, length, map, take, sym, ap, ◌∙◌, arith}
use Rattle.std.proofs.lemmas.{Bool.{cases_Bool}, Bool.Decides.{nat_tests}}
use Rattle.std.specs.{Char.{to_ascii_lowercase}, List.{starts_with}}
use Rattle.html_text.proofs.RawEnds.{same_tests}
use Rattle.html_page_read.proofs.Words.{begins_so, begun_so, small_front}
use Rattle.html_page_read.proofs.markup.begins_lowered.Goals as goal

pub returns-then-text-word : goal.returns-then-text-word
returns-then-text-word c =
    let w = c.args.word.now in
    let t = c.args.text.now in
    let word = c.as_bytes-word.ensures.value in
    let text = c.as_bytes-text.ensures.value in
    let fits : length t ≤ length w = omega (arith, ap length word, ap length text) in
    let same : take (length c.as_bytes-text.result.now) c.as_bytes-word.result.now
    ≡ take (length t) w = ap (λ l. take (length l) c.as_bytes-word.result.now) text
    ∙ ap (take (length t)) word in
    let front = ap (map to_ascii_lowercase) same ∙ small_front w (length t) c.requires.small in
    let test = c.eq_ignore_ascii_case.ensures.test in
    same_tests c.eq_ignore_ascii_case.result
    (starts_with eqb w (map to_ascii_lowercase (chars t)))
    (λ e. begun_so w t c.requires.ascii c.requires.small c.utf8.text fits
    (sym (ap (map to_ascii_lowercase) text) ∙ (test.0 e ∙ front)))
    (λ e. test.1 (ap (map to_ascii_lowercase) text
    ∙ ((begins_so w t c.requires.ascii c.requires.small c.utf8.text e).1 ∙ sym front)))

pub returns-else-text-word : goal.returns-else-text-word
returns-else-text-word c =
    let w = c.args.word.now in
    let t = c.args.text.now in
    let word = ap length c.as_bytes-word.ensures.value in
    let text = ap length c.as_bytes-text.ensures.value in
    let longer : leb (length c.as_bytes-text.result.now) (length c.as_bytes-word.result.now) ≡ false =
    grind (arith, nat_tests) in
    longer ∙ sym (elim (cases_Bool (starts_with eqb w (map to_ascii_lowercase (chars t)))) [
      | inl e ↦
          let fits = (begins_so w t c.requires.ascii c.requires.small c.utf8.text e).0 in
          absurd (omega (arith, fits, word, text))
      | inr e ↦ e
    ])
