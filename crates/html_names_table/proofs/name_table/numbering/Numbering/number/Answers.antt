use Rattle.html_names_table.proofs.NameTables.{finds}
use Rattle.html_names_table.proofs.name_table.numbering.Numbering.number.Goals as goal

pub returns-in-Some : goal.returns-in-Some
returns-in-Some g c = finds _ _ _ c.in-Some.ensures
