use Rattle.std.proofs.Common.{sym, ap, ◌∙◌, chars, rules}
use Rattle.html_links.specs.UsedNames.{used_in}
use Rattle.html_anchors.proofs.Numbers.{free_here, taken_here, none_left}
use Rattle.html_anchors.proofs.names.first_free.Goals as goal

pub returns-then-not-is_used : goal.returns-then-not-is_used
returns-then-not-is_used c =
    let stem = chars c.args.stem.now in
    let used = used_in c.args.used.now in
    let n = c.loop-number.number in
    sym (free_here stem used c.args.limit n (search rules)
    (sym (ap used c.in_ok-name_with_number.ensures)
    ∙ (sym c.is_used.ensures ∙ c.if-not-is_used.true)))
    ∙ c.loop-number.invariant

pub loop-number-preserved : goal.loop-number-preserved
loop-number-preserved c =
    let stem = chars c.args.stem.now in
    let used = used_in c.args.used.now in
    let n = c.loop-number.number in
    sym (taken_here stem used c.args.limit n (search rules)
    (sym (ap used c.in_ok-name_with_number.ensures)
    ∙ (sym c.is_used.ensures ∙ c.if-not-is_used.false)))
    ∙ c.loop-number.invariant

pub returns : goal.returns
returns c =
    let stem = chars c.args.stem.now in
    let used = used_in c.args.used.now in
    let n = c.loop-number.number in
    sym (none_left stem used c.args.limit n (search rules) (search rules)) ∙ c.loop-number.invariant
