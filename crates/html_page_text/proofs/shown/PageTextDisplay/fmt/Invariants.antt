use Rattle.std.{proofs.Common.{take}, specs.Fmt.{HasWritten, IsPlainFormatter}, specs.List.{flat_map}}
use Rattle.html_page_text.specs.PlainTexts.{part_bytes}
use Rattle.html_page_text.proofs.shown.PageTextDisplay.fmt.Given as goal

abbrev pub invariant-loop-part : goal.invariant-loop-part
invariant-loop-part g l =
    IsPlainFormatter l.initial.f → HasWritten g.W.Write.write_str_gives l.initial.f
    (flat_map part_bytes (take l.part-index l.parts)) l.f
