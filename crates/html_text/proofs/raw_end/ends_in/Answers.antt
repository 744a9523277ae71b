use Rattle.std.proofs.Common.{◌≡◌, ◌-◌, ◌≤◌, false, leb, inl, inr, chars, drop, map, sym, ap, ◌∙◌, arith, length, refl}
use Rattle.std.{proofs.lemmas.Bool.{cases_Bool}, proofs.lemmas.Bool.Decides.{nat_tests}, specs.Char.{to_ascii_lowercase}}
use Rattle.html_names_core.proofs.Basics.{is_ascii_is}
use Rattle.html_text.{proofs.RawEnds.{end_is, same_tests, word_by_bytes, word_by_characters}, specs.RawEnds.{ends_in}}
use Rattle.html_text.proofs.raw_end.ends_in.Goals as goal

pub returns-then-word-text : goal.returns-then-word-text
returns-then-word-text c =
    let word = c.args.word.now in
    let text = c.args.text.now in
    let ascii = is_ascii_is word c.requires.ascii in
    let long = ap length c.as_bytes-word.ensures.value in
    let begin = length c.as_bytes-text.result.now - length c.as_bytes-word.result.now in
    let end = end_is text c.as_bytes-text.result.now begin c.as_bytes-text.ensures.value in
    let same : begin ≡ length text - length word =
    omega (arith, long, ap length c.as_bytes-text.ensures.value) in
    let fits : length word ≤ length text =
    omega (arith, long, ap length c.as_bytes-text.ensures.value) in
    let small = ap (map to_ascii_lowercase) c.as_bytes-word.ensures.value ∙ c.requires.small in
    same_tests c.eq_ignore_ascii_case.result (ends_in word (chars text))
    (λ e. (word_by_bytes word text (length word) ascii c.utf8.text c.requires.some refl fits
    (ap (λ k. map to_ascii_lowercase (drop k text)) (sym same)
    ∙ (sym (ap (map to_ascii_lowercase) end)
    ∙ (c.eq_ignore_ascii_case.ensures.test.0 e ∙ small)))).ends)
    (λ e. c.eq_ignore_ascii_case.ensures.test.1 (ap (map to_ascii_lowercase) end
    ∙ (ap (λ k. map to_ascii_lowercase (drop k text)) same
    ∙ ((word_by_characters word text (length word) ascii c.utf8.text c.requires.some refl e).1
    ∙ sym small))))

pub returns-else-word-text : goal.returns-else-word-text
returns-else-word-text c =
    let word = c.args.word.now in
    let text = c.args.text.now in
    let ascii = is_ascii_is word c.requires.ascii in
    let long = ap length c.as_bytes-word.ensures.value in
    let short = ap length c.as_bytes-text.ensures.value in
    let shorter : leb (length c.as_bytes-word.result.now) (length c.as_bytes-text.result.now) ≡ false =
    grind (arith, nat_tests) in
    shorter ∙ sym (elim (cases_Bool (ends_in word (chars text))) [
      | inl e ↦
          let fits = (word_by_characters word text (length word) ascii c.utf8.text
          c.requires.some refl e).0 in
          absurd (omega (arith, long, short, fits))
      | inr e ↦ e
    ])
