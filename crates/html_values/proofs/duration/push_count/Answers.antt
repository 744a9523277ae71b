use Rattle.std.proofs.Common.{sym, ◌<◌, arith}
use Rattle.html_values.proofs.Spaces.{spaced-count}
use Rattle.html_values.proofs.duration.push_count.Goals as goal

pub returns : goal.returns
returns c =
    let above : 0 < c.args.count = omega (arith, c.if-count-eq0.false) in
    let old = c.args.text.now in
    let count = spaced-count old c.args.unit.now c.args.count above c.ranges.count.fits in
    rw (sym count, sym c.in_ok-push_gap.ensures, sym c.in_ok-push_decimal.ensures)
    c.push_ascii.ensures.added
