use Rattle.std.proofs.Common.{◌∙◌}
use Rattle.typst_html_encode.proofs.Indents.{levels_left}
use Rattle.typst_html_encode.proofs.indent.push_spaces.Goals as goal

pub loop-left-preserved : goal.loop-left-preserved
loop-left-preserved c =
    levels_left c.loop-left.out c.push_ascii.new.self c.few_spaces.result.now
    c.first_levels-levels.result c.loop-left.left c.first_levels-levels.ensures.within
    c.in_ok-push_ascii.ensures.added c.few_spaces.ensures
    ∙ c.loop-left.invariant
