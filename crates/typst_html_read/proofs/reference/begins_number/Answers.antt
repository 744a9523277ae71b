use Rattle.std.proofs.Common.{◌∷◌, sym, ap, ◌∙◌}
use Rattle.typst_html_read.proofs.BegunReferences.{number_after, number_otherwise}
use Rattle.typst_html_read.proofs.reference.begins_number.Goals as goal

pub returns-in-Some : goal.returns-in-Some
returns-in-Some c =
    let found = c.in-Some.ensures.cases in
    c.begins_digits.ensures ∙ sym (number_after c.args.text.now c.in-Some.digits.now
    (found.1.1 ∙ sym (ap (λ l. 35 ∷ 120 ∷ l) found.2)))

pub returns-in-None : goal.returns-in-None
returns-in-None c = number_otherwise c.args.text.now c.utf8.text c.in-None.ensures.cases
