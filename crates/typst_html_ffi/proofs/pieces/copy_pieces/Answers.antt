use Rattle.std.proofs.Common.{◌+◌, ◌++◌, [], drop, length, string_bytes, refl, sym, ap, ◌∙◌, arith, append_assoc}
use Rattle.std.proofs.lemmas.List.{append-nil, drop_all, length-append}
use Rattle.html_names_core.proofs.Basics.{from_place}
use Rattle.typst_html_ffi.{proofs.TextPieces.{piece_copied, piece_fits}, specs.LongTexts.{pieces_bytes}}
use Rattle.typst_html_ffi.proofs.pieces.copy_pieces.Goals as goal

pub loop-piece-init : goal.loop-piece-init
loop-piece-init c = ([], record { all = refl; end = refl; output = refl })

pub copy_to-requires : goal.copy_to-requires
copy_to-requires c =
    let held = c.loop-piece.invariant in
    let piece = c.piece-item.result in
    let pieces = c.args.pieces.now in
    let i = c.loop-piece.piece-index in
    let left = from_place pieces i piece c.loop-piece-test.true c.piece-item.is in
    rw c.as_bytes.ensures.value
    (piece_fits c.args.output.now c.loop-piece.output held.0 (string_bytes piece) c.loop-piece.end
    held.1.output held.1.end (pieces_bytes pieces) (pieces_bytes (drop (i + 1) pieces)) c.requires
    (ap (λ ps. held.0 ++ pieces_bytes ps) (sym left) ∙ held.1.all))

pub loop-piece-preserved : goal.loop-piece-preserved
loop-piece-preserved c =
    let held = c.loop-piece.invariant in
    let piece = c.piece-item.result in
    let bytes = string_bytes piece in
    let pieces = c.args.pieces.now in
    let i = c.loop-piece.piece-index in
    let left = from_place pieces i piece c.loop-piece-test.true c.piece-item.is in (
      held.0 ++ bytes,
      record {
        all = append_assoc held.0 bytes (pieces_bytes (drop (i + 1) pieces))
            ∙ (ap (λ ps. held.0 ++ pieces_bytes ps) (sym left) ∙ held.1.all);
        end = omega (
          arith,
          held.1.end,
          length-append held.0 bytes,
          c.len-end.ensures,
          c.as_bytes.ensures.len,
          ap length c.as_bytes.ensures.value,
        );
        output = piece_copied c.args.output.now c.loop-piece.output held.0 bytes c.loop-piece.end
            held.1.output held.1.end c.copy_to.new.output
            (rw c.as_bytes.ensures.value at c.copy_to.ensures);
      },
    )

pub returns : goal.returns
returns c =
    let held = c.loop-piece.invariant in
    let pieces = c.args.pieces.now in
    let none = drop_all c.loop-piece.piece-index pieces c.loop-piece-test.false in
    let whole = sym (append-nil held.0)
    ∙ (ap (λ ps. held.0 ++ pieces_bytes ps) (sym none) ∙ held.1.all) in
    held.1.output ∙ ap (λ bytes. bytes ++ drop (length bytes) c.args.output.now) whole
