use Rattle.std.proofs.Common.{sym, arith}
use Rattle.std.proofs.lemmas.List.{length-take-le, take_all}
use Rattle.html_page_read.proofs.bytes.front.Goals as goal

pub returns-then-page-count : goal.returns-then-page-count
returns-then-page-count c =
    sym (take_all c.args.count c.args.page.now c.if-page-count.true)

pub slice_bounds-result-end : goal.slice_bounds-result-end
slice_bounds-result-end c = sym (length-take-le c.args.count c.args.page.now (omega arith))
