use Rattle.std.proofs.Common.{◌≡◌, ◌^◌, sym, ap, ◌∙◌, subst}
use Rattle.html_names_core.specs.Texts.{text_view}
use Rattle.html_anchors.proofs.Numbers.{used_below_found, found_from}
use Rattle.html_anchors.specs.{NewNames.{name_with_number, stem_of, first_number, first_free}, NumberedNames.{AreUsedBelow}}
use Rattle.html_links.specs.UsedNames.{used_in}
use Rattle.html_anchors.proofs.names.AnchorNames.free_name.Goals as goal

pub invariant_of-self : goal.invariant_of-self
invariant_of-self c =
    let label = text_view c.args.label in
    let used = used_in c.args.self.now.used in
    let from = c.next_number-from.result in
    let found : c.in_ok-number.number
    ≡ first_free (stem_of label) used (2 ^ 63) (first_number label) =
    c.in_ok-number.ensures ∙ (rw (c.stem_of.ensures, c.first_number-limit.ensures)
    (sym (found_from label used from c.next_number-from.ensures))) in
    record {
      counted = c.put_number.ensures used c.args.self.now.counted
          (subst (AreUsedBelow used label) (sym found) (used_below_found label used));
    }

pub returns-clause-name : goal.returns-clause-name
returns-clause-name c =
    let label = text_view c.args.label in
    let used = used_in c.args.self.now.used in
    let from = c.next_number-from.result in
    let found : c.in_ok-number.number
    ≡ first_free (stem_of label) used (2 ^ 63) (first_number label) =
    c.in_ok-number.ensures ∙ (rw (c.stem_of.ensures, c.first_number-limit.ensures)
    (sym (found_from label used from c.next_number-from.ensures))) in
    c.in_ok-name.ensures ∙ rw c.stem_of-2.ensures (ap (name_with_number (stem_of label)) found)
