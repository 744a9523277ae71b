use Rattle.std.proofs.{Common.{◌+◌, ◌*◌, ◌∙◌, arith}, lemmas.Str.{IsCharBoundary-from_ascii}}
use Rattle.typst_html_encode.{proofs.Indents.{line_ascii, line_length, short_line}, specs.declared.indent.TheConstants.{LINE}}
use Rattle.typst_html_encode.proofs.indent.short_indent.Goals as goal

pub range-requires-clause-end_boundary : goal.range-requires-clause-end_boundary
range-requires-clause-end_boundary c =
    IsCharBoundary-from_ascii LINE.now (1 + 2 * c.args.levels) line_ascii
    (omega (arith, c.requires, line_length))

pub returns : goal.returns
returns c = c.range.ensures.value ∙ short_line c.args.levels c.requires
