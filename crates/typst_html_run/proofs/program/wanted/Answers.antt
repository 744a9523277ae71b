use Rattle.std.proofs.Common.{◌≡◌, None, Some, rules, refl, sym, ◌∙◌}
use Rattle.typst_html_run.{proofs.Inputs.{some_input}, proofs.Outputs.{answered}, specs.Words.{wanted_task, texts_of}}
use Rattle.typst_html_run.proofs.program.wanted.Goals as goal

pub returns-in_default-clause-answers : goal.returns-in_default-clause-answers
returns-in_default-clause-answers g c =
    let wrong : wanted_task (texts_of c.args.words.now) ≡ None = search rules in
    let all = some_input (g.R.Read.remaining c.args.reader.now) in (all.0, all.1, rw wrong refl)

pub returns-in-Some-read_all-clause-answers : goal.returns-in-Some-read_all-clause-answers
returns-in-Some-read_all-clause-answers g c =
    let words = texts_of c.args.words.now in
    let input = c.in-Some-read_all.input.items in
    let wanted : wanted_task words ≡ Some (c.in-Some.task, c.in-Some.pretty) =
    sym c.wanted_task.ensures ∙ c.in-Some.is in (
      input,
      c.in-Some-read_all.ensures,
      answered words c.in-Some.task c.in-Some.pretty input c.answer.result wanted c.answer.ensures,
    )

pub returns-in-None-clause-answers : goal.returns-in-None-clause-answers
returns-in-None-clause-answers g c =
    let all = some_input (g.R.Read.remaining c.args.reader.now) in (all.0, all.1, tt)
