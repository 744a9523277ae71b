use Rattle.std.proofs.Common.{sym, arith}
use Rattle.std.proofs.lemmas.List.{length-take-le, take_all}
use Rattle.html_page_encoding.proofs.page.head.Goals as goal

pub returns-then-page-le-HEAD_LENGTH : goal.returns-then-page-le-HEAD_LENGTH
returns-then-page-le-HEAD_LENGTH c =
    sym (take_all 1024 c.args.page.now c.if-page-le-HEAD_LENGTH.true)

pub slice_bounds-result-end : goal.slice_bounds-result-end
slice_bounds-result-end c = sym (length-take-le 1024 c.args.page.now (omega arith))
