use Rattle.std.proofs.{Common.{map, sym, ◌∙◌, arith}, lemmas.List.{length-map}}
use Rattle.html_names_core.specs.Texts.{text_view}
use Rattle.html_anchors.proofs.names.AnchorNames.are_bounded.Goals as goal

pub returns : goal.returns
returns c =
    let keys = c.args.self.now.used.keys in
    let small = c.len.ensures.small in
    let all = length-map keys text_view ∙ sym c.len.ensures.len in
    record { names = map text_view keys; few = omega (arith, small, all); holds = λ n e. e }
