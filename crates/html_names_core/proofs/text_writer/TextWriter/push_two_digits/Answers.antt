use Rattle.std.proofs.{Common.{◌∷◌, [], ap, ◌∙◌, ◌++◌, arith}, lemmas.Str.{IsUtf8-string_bytes}}
use Rattle.html_names_core.{proofs.Digits.{chars_two}, specs.Texts.{two_digits}}
use Rattle.html_names_core.proofs.text_writer.TextWriter.push_two_digits.Goals as goal

pub returns-clause-added : goal.returns-clause-added
returns-clause-added c =
    let n = c.args.n in
    let small = c.requires in
    let tens = c.from.ensures in
    let ones = c.from-2.ensures in
    chars_two _ _ _ _ _ _ n (IsUtf8-string_bytes c.self.inside.text) small
    (c.push.ensures.ascii (omega (arith, tens, small)) ∙ ap (λ d. d ∷ []) tens)
    (c.push-2.ensures.ascii (omega (arith, ones)) ∙ ap (λ d. d ∷ []) ones)
    c.in_ok-reserve.ensures.bytes c.in_ok-push.ensures.bytes c.in_ok-push-2.ensures.bytes
    ∙ ap (λ l. l ++ two_digits n) c.self.view_is
