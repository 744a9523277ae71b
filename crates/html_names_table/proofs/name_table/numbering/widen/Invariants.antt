use Rattle.std.proofs.Common.{map, take}
use Rattle.html_names_table.specs.OwnNumbers.{IsOwnNumbering}
use Rattle.html_names_table.proofs.name_table.numbering.widen.Given as goal

abbrev pub invariant-loop-number : goal.invariant-loop-number
invariant-loop-number g l =
    IsOwnNumbering g.N.Numbered.known l.wider (map g.N.Numbered.text (take l.number l.kept))
