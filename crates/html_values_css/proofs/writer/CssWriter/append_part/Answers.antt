use Rattle.std.proofs.lemmas.Result.{err_from_is_err_and}
use Rattle.html_values_css.proofs.Emitting.{refused_emits}
use Rattle.html_values_css.proofs.writer.CssWriter.append_part.Goals as goal

pub returns-in_err-write_ascii : goal.returns-in_err-write_ascii
returns-in_err-write_ascii g c =
    let refused = err_from_is_err_and c.from_residual.result c.from_residual.ensures.1 in
    refused_emits _ _ c.write_ascii.ensures c.in_err-write_ascii.was refused.1

pub returns-in_err-write_ascii-2 : goal.returns-in_err-write_ascii-2
returns-in_err-write_ascii-2 g c =
    let refused = err_from_is_err_and c.from_residual-in_err-write_ascii-2.result
    c.from_residual-in_err-write_ascii-2.ensures.1 in
    refused_emits _ _ c.write_ascii-2.ensures c.in_err-write_ascii-2.was refused.1
