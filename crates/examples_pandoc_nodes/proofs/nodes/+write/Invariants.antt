use Rattle.std.proofs.Common.{◌+◌, ◌*◌}
use Rattle.examples_pandoc_nodes.proofs.nodes.+write.Given as goal

-- how deep it may still go, and then how many of these functions call one another before that is less
abbrev pub decreases-values : goal.decreases-values
decreases-values l = 5 * l.depth

abbrev pub decreases-inside : goal.decreases-inside
decreases-inside l = 5 * l.depth + 1

abbrev pub decreases-plain : goal.decreases-plain
decreases-plain l = 5 * l.depth + 1

abbrev pub decreases-inline : goal.decreases-inline
decreases-inline l = 5 * l.depth + 1

abbrev pub decreases-figure : goal.decreases-figure
decreases-figure l = 5 * l.depth + 2

abbrev pub decreases-image_figure : goal.decreases-image_figure
decreases-image_figure l = 5 * l.depth + 2

abbrev pub decreases-rows : goal.decreases-rows
decreases-rows l = 5 * l.depth + 2

abbrev pub decreases-table : goal.decreases-table
decreases-table l = 5 * l.depth + 3

abbrev pub decreases-block : goal.decreases-block
decreases-block l = 5 * l.depth + 4
