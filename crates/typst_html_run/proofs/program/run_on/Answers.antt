use Rattle.std.proofs.{Common.{refl, inl, inr, subst}, KnownBytes.{Keeps-refl}}
use Rattle.typst_html_run.proofs.{Inputs.{some_input}, Outputs.{bad_input_written, not_failed}}
use Rattle.typst_html_run.specs.{Outputs.{Output, EndsAs, bad_input_output, words_output}, Words.{texts_of}}
use Rattle.typst_html_run.proofs.program.run_on.Goals as goal

pub returns-in-Ok-clause-answers : goal.returns-in-Ok-clause-answers
returns-in-Ok-clause-answers g c =
    let all = c.wanted.ensures.answers in
    let is = c.in-Ok.ensures (words_output (texts_of c.args.words.now) all.0) all.2 in
    let Sends : Output → Type 0 = λ o. EndsAs o c.send.result (g.W.Write.contents c.args.writer.now)
    (g.W.Write.contents c.send.new.writer) c.send.new.last in
    (all.0, all.1, subst Sends is c.send.ensures)

pub returns-in-Ok-clause-bad_input : goal.returns-in-Ok-clause-bad_input
returns-in-Ok-clause-bad_input g c bad =
    let all = c.wanted.ensures.answers in
    let words = texts_of c.args.words.now in
    let is = c.in-Ok.ensures (words_output words all.0) all.2 in
    let Sends : Output → Type 0 = λ o. EndsAs o c.send.result (g.W.Write.contents c.args.writer.now)
    (g.W.Write.contents c.send.new.writer) c.send.new.last in
    bad_input_written words all.0 _ _ _ _ (subst Sends is c.send.ensures) bad

pub returns-in-Ok-clause-wrong_words : goal.returns-in-Ok-clause-wrong_words
returns-in-Ok-clause-wrong_words g c none =
    let is = c.in-Ok.ensures bad_input_output (c.wanted.ensures.wrong_words none) in
    let Sends : Output → Type 0 = λ o. EndsAs o c.send.result (g.W.Write.contents c.args.writer.now)
    (g.W.Write.contents c.send.new.writer) c.send.new.last in
    subst Sends is c.send.ensures

pub returns-in-Err-clause-answers : goal.returns-in-Err-clause-answers
returns-in-Err-clause-answers g c =
    let all = some_input (g.R.Read.remaining c.args.reader.now) in
    (all.0, all.1, inr (refl, inl (Keeps-refl _)))

pub returns-in-Err-clause-bad_input : goal.returns-in-Err-clause-bad_input
returns-in-Err-clause-bad_input g c bad = absurd (not_failed bad)
