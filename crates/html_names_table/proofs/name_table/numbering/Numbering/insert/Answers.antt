use Rattle.html_names_table.proofs.NameTables.{finds}
use Rattle.html_names_table.proofs.name_table.numbering.Numbering.insert.Goals as goal

pub returns-in-Some-clause-number : goal.returns-in-Some-clause-number
returns-in-Some-clause-number g c = finds _ _ _ c.in-Some.ensures
