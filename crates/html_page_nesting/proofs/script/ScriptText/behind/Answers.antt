use Rattle.std.proofs.Common.{◌≡◌, ap, length, ◌∙◌}
use Rattle.std.specs.Prelude.{slice_set}
use Rattle.html_page_nesting.proofs.ScriptTexts.{shifted}
use Rattle.html_page_nesting.proofs.script.ScriptText.behind.Goals as goal

pub returns : goal.returns
returns c =
    let eight : length c.args.self.last ≡ 8 = search in
    let last = ap (λ l. slice_set l 7 c.args.c) c.rotate_left.ensures.after
    ∙ shifted c.args.self.last c.args.c eight in
    λ i. (c.depth_behind-depth.ensures i, last i)
