use Rattle.html_names_table.proofs.Numberings.{fresh}
use Rattle.html_names_table.proofs.name_table.numbering.Numbering.new.Goals as goal

pub invariant_of-result : goal.invariant_of-result
invariant_of-result g c =
    rw (c.new.ensures.items, c.new-2.ensures.items)
    (fresh g.N.Numbered.known c.new-3.result c.new-3.ensures)
