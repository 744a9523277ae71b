use Rattle.std.proofs.Common.{◌≡◌, refl, ap, ◌∙◌, inl, inr, length, arith, rules}
use Rattle.html_names_table.{proofs.OwnNumbers.{takes, joins}, specs.OwnNumbers.{slot_of}}
use Rattle.html_names_table.specs.declared.name_table.own_numbers.OwnNumbers.{OwnNumbers}
use Rattle.html_names_table.proofs.name_table.own_numbers.OwnNumbers.put.Goals as goal

pub returns-then-index-number : goal.returns-then-index-number
returns-then-index-number c =
    let count : c.len.result ≡ length c.args.self.now.slots.items = search (rules, c.len.ensures) in
    let count_2 : c.len-2.result ≡ length c.args.self.now.slots.items =
    search (rules, c.len-2.ensures) in
    record {
      placed = inl (takes c.args.self.now _ c.args.text.now c.args.number c.slot_of-slot.result
          c.index.result.now (c.slot_of-slot.ensures ∙ ap (slot_of c.args.text.now) count)
          (omega (arith, c.if-slot-len.true, count_2)) refl (λ other. refl) c.index.ensures
          c.if-index-number.true);
      slots = tt;
      rest = tt;
    }

pub returns : goal.returns
returns c =
    let new : OwnNumbers = record { slots = c.args.self.now.slots; rest = c.insert.new.self } in
    record {
      placed = inr (joins c.args.self.now new c.args.text.now _ c.args.number
          c.in_ok-text.ensures.ok refl c.in_ok-insert.ensures.updates);
      slots = tt;
      rest = tt;
    }
