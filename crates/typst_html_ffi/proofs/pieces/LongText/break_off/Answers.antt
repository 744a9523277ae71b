use Rattle.std.proofs.Common.{ap, ◌∙◌, string_bytes}
use Rattle.typst_html_ffi.proofs.TextPieces.{broken_off}
use Rattle.typst_html_ffi.proofs.pieces.LongText.break_off.Goals as goal

pub returns-in_ok-push : goal.returns-in_ok-push
returns-in_ok-push c =
    broken_off c.args.self.now c.push.new.self.items c.shrink_to_fit.new.self c.replace-piece.new.dest
    c.in_ok-push.ensures.items
    (c.shrink_to_fit.ensures.bytes ∙ ap string_bytes c.replace-piece.ensures.value)
    (ap string_bytes c.replace-piece.ensures.after ∙ c.new.ensures.bytes)
