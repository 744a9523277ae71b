use Rattle.std.proofs.Common.{sym, ◌∙◌, rules}
use Rattle.html_names_table.proofs.Numberings.{found_past, found_here, found_in_rest}
use Rattle.html_names_table.proofs.name_table.numbering.Numbering.find.Goals as goal
use Rattle.html_names_table.proofs.name_table.numbering.Numbering.find.Goals.{else-number-len-via-then-number-len+else-eq, else-number-len-via-else-number-len}

pub returns-then-eq : goal.returns-then-eq
returns-then-eq g c =
    found_here g.N.Numbered.text g.N.Numbered.known c.self.inside.known.items c.self.inside.own
    c.self.inside.kept.items _ c.self.view_is c.self.invariant c.args.text.now c.utf8.text
    c.requires c.slot_number-number.result c.len.result c.slot_number-number.ensures
    (search (rules, c.len.ensures)) c.index.result.now c.as_str.result.now c.if-number-len.true
    c.index.ensures c.as_str.ensures c.as_str.utf8 (sym c.eq.ensures ∙ c.if-eq.true)

pub returns : goal.returns
returns g c =
    c.rest_number.ensures
    ∙ elim c.else-number-len.branch [
      | else-number-len-via-then-number-len+else-eq w ↦
          found_in_rest g.N.Numbered.text g.N.Numbered.known c.self.inside.known.items
          c.self.inside.own c.self.inside.kept.items _ c.self.view_is c.self.invariant
          c.args.text.now c.utf8.text c.requires c.slot_number-number.result c.len.result
          c.slot_number-number.ensures (search (rules, c.len.ensures)) w.index.result.now
          w.as_str.result.now w.if-number-len.true w.index.ensures w.as_str.ensures
          w.as_str.utf8 (sym w.eq.ensures ∙ w.if-eq.false)
      | else-number-len-via-else-number-len w ↦
          found_past g.N.Numbered.text g.N.Numbered.known c.self.inside.known.items
          c.self.inside.own c.self.inside.kept.items _ c.self.view_is c.self.invariant
          c.args.text.now c.utf8.text c.requires c.slot_number-number.result c.len.result
          c.slot_number-number.ensures (search (rules, c.len.ensures)) w.if-number-len.false
    ]
