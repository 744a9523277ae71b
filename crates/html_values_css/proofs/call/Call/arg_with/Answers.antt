use Rattle.std.proofs.lemmas.Result.{err_from_is_err_and}
use Rattle.html_values_css.proofs.Emitting.{refused_emits}
use Rattle.html_values_css.proofs.call.Call.arg_with.Goals as goal

pub returns-in_err-write_ascii-clause-emits : goal.returns-in_err-write_ascii-clause-emits
returns-in_err-write_ascii-clause-emits g c =
    let refused = err_from_is_err_and c.from_residual.result c.from_residual.ensures.1 in
    refused_emits _ _ c.write_ascii.ensures c.in_err-write_ascii.was refused.1
