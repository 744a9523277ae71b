use Rattle.typst_html_export.proofs.{CleanRoots.{no_head_is_clean}, HeadNodes.{no_head_is_readable}}
use Rattle.typst_html_export.proofs.encode.export.Goals as goal

pub returns-clause-makes : goal.returns-clause-makes
returns-clause-makes g c = c.export_with_head.ensures.makes

pub returns-clause-plain : goal.returns-clause-plain
returns-clause-plain g c = c.export_with_head.ensures.plain

pub returns-clause-clean : goal.returns-clause-clean
returns-clause-clean g c = λ are clean known.
    c.export_with_head.ensures.clean are clean known
    (no_head_is_clean (g.F.FrameWriter.drawing c.args.frames.now) c.args.options.now)

pub returns-clause-spaces : goal.returns-clause-spaces
returns-clause-spaces g c =
    c.export_with_head.ensures.spaces (no_head_is_readable c.args.options.now)
