use Rattle.std.proofs.Common.{not, ap, ◌∙◌}
use Rattle.html_names_table.proofs.{Numberings.{known_by, widened_known, widened_own}, OwnNumbers.{own_fresh}}
use Rattle.html_names_table.proofs.name_table.numbering.widen.Goals as goal
use Rattle.html_names_table.proofs.name_table.numbering.widen.Goals.{then-is_none+in_ok-put, else-is_none}

pub loop-number-init : goal.loop-number-init
loop-number-init g c = own_fresh g.N.Numbered.known c.in_ok-wider.wider c.in_ok-wider.ensures

pub loop-number-preserved : goal.loop-number-preserved
loop-number-preserved g c =
    elim c.if-is_none.branch [
      | then-is_none+in_ok-put w ↦ rw w.wider-is (widened_own g.N.Numbered.text g.N.Numbered.known
          c.args.kept.now c.requires.all c.loop-number.number c.loop-number-test.true
          c.loop-number.wider c.loop-number.invariant c.index-kept-number.result
          c.index-kept-number.is w.put.new.self w.as_str.result.now w.as_str.utf8
          w.as_str.ensures w.in_ok-put.ensures)
      | else-is_none w ↦ rw w.wider-is (widened_known g.N.Numbered.text g.N.Numbered.known
          c.args.kept.now c.requires.all c.loop-number.number c.loop-number-test.true
          c.loop-number.wider c.loop-number.invariant c.index-kept-number.result
          c.index-kept-number.is (known_by g.N.Numbered.known _ c.place.result c.place.ensures
          (c.is_none.ensures ∙ ap not w.if-is_none.false)))
    ]
