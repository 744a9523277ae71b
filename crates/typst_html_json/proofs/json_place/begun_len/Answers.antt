use Rattle.std.proofs.{Common.{◌≡◌, drop, ap, arith}, lemmas.List.{drop_all}}
use Rattle.typst_html_json.specs.JsonPlaces.{begun}
use Rattle.typst_html_json.proofs.json_place.begun_len.Goals as goal

pub returns-clause-count : goal.returns-clause-count
unfolding begun
returns-clause-count c =
    let text = c.args.text.now in
    let point = c.loop-index.point in
    let none = drop_all c.loop-index.index text c.loop-index-test.false in
    let left : begun point.stage point.brackets.items (drop c.loop-index.index text) ≡ 0 =
    ap (begun point.stage point.brackets.items) none in
    omega (arith, c.loop-index.invariant, left)
