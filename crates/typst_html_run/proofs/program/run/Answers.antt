use Rattle.typst_html_run.proofs.program.run.Goals as goal

pub returns-clause-answers : goal.returns-clause-answers
returns-clause-answers g c = (c.run_on.new.last, c.run_on.ensures.answers)

pub returns-clause-wrong_words : goal.returns-clause-wrong_words
returns-clause-wrong_words g c none = (c.run_on.new.last, c.run_on.ensures.wrong_words none)
