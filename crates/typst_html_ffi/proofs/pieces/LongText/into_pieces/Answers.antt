use Rattle.std.proofs.Common.{ap, ◌∙◌}
use Rattle.typst_html_ffi.{proofs.TextPieces.{with_last_piece}, specs.LongTexts.{pieces_bytes}}
use Rattle.typst_html_ffi.proofs.pieces.LongText.into_pieces.Goals as goal

pub returns : goal.returns
returns c =
    ap pieces_bytes c.in_ok-push.ensures.items
    ∙ with_last_piece c.args.self.whole.items c.args.self.last
