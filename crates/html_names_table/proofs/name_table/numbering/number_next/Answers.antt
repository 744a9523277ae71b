use Rattle.std.proofs.{Common.{sym, length, map}, lemmas.List.{length-map}}
use Rattle.html_names_table.{proofs.Numberings.{next_known, next_own}, specs.OwnNumbers.{IsOwnNumbering}}
use Rattle.html_names_table.proofs.name_table.numbering.number_next.Goals as goal
use Rattle.html_names_table.proofs.name_table.numbering.number_next.Goals.{then-are_few+in_ok-widen-in-None, else-are_few}

pub returns-in-Some-clause-next : goal.returns-in-Some-clause-next
returns-in-Some-clause-next g c =
    next_known g.N.Numbered.known _ _ c.requires.new (length c.args.kept.now)
    (sym (length-map c.args.kept.now g.N.Numbered.text)) g.met.N.Numbered.ascends
    c.put_known.result c.args.known.now.items c.put_known.new.known.items c.args.own.now
    c.in-Some.place c.in-Some.ensures c.requires.was c.put_known.ensures

pub returns-after-are_few-clause-next : goal.returns-after-are_few-clause-next
returns-after-are_few-clause-next g c =
    let names = map g.N.Numbered.text c.args.kept.now in
    let own : IsOwnNumbering g.N.Numbered.known c.if-are_few.own names =
    elim c.if-are_few.branch [
      | then-are_few+in_ok-widen-in-None w ↦ rw w.own-is w.widen.ensures
      | else-are_few w ↦ rw w.own-is c.requires.was.2
    ] in
    next_own g.N.Numbered.known names _ c.requires.new (length c.args.kept.now)
    (sym (length-map c.args.kept.now g.N.Numbered.text)) c.put.result c.args.known.now.items
    c.if-are_few.own c.put.new.self c.as_str.result.now c.as_str.utf8 c.as_str.ensures
    c.in-None.ensures c.requires.was.0 c.requires.was.1 own c.put.ensures
