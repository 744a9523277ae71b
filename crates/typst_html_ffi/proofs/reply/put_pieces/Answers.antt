use Rattle.std.proofs.Common.{refl, ap}
use Rattle.typst_html_ffi.{proofs.TextPieces.{put_not, put_whole}, specs.LongTexts.{pieces_bytes}, specs.declared.reply.Reply.{Reply}}
use Rattle.typst_html_ffi.proofs.reply.put_pieces.Goals as goal

pub returns-in-Some-clause-answered : goal.returns-in-Some-clause-answered
returns-in-Some-clause-answered c = λ report is.
    let n = c.in-Some.length in
    put_whole report (pieces_bytes c.args.pieces.now) c.args.output.now n _ _ is c.in-Some.ensures
    c.if-length-output.true (ap (λ (r : Reply). record r { length = n }) c.without_text.ensures)
    c.copy_pieces.ensures

pub returns-in-Some-2-clause-answered : goal.returns-in-Some-2-clause-answered
returns-in-Some-2-clause-answered c = λ report is.
    let n = c.in-Some.length in
    put_not report (pieces_bytes c.args.pieces.now) c.args.output.now n _ _ is c.in-Some.ensures
    c.if-length-output.false
    (ap (λ (r : Reply). record r { length = n }) c.without_text-in-Some-2.ensures) refl
