use Rattle.std.proofs.Common.{ap, ◌∙◌}
use Rattle.html_names_table.{proofs.Numberings.{known_where}, specs.Numberings.{known_number}}
use Rattle.html_names_table.proofs.name_table.numbering.Numbering.number_of.Goals as goal

pub returns-in-Some : goal.returns-in-Some
returns-in-Some g c =
    c.number_at.ensures
    ∙ (ap (λ known. known_number known c.in-Some.place) c.deref.ensures.value
    ∙ known_where g.N.Numbered.known c.self.inside.known.items _ _ c.self.view_is
    c.self.invariant.1 _ c.in-Some.place c.in-Some.ensures)
