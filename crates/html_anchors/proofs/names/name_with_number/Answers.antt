use Rattle.std.proofs.{Common.{◌≡◌, ◌++◌, codes, string_bytes, ap, ◌∙◌, chars, rules}, lemmas.Result.{IfOk-weaker}}
use Rattle.std.specs.Prelude.{decimal}
use Rattle.html_anchors.proofs.NumberedNames.{numbered_is}
use Rattle.html_anchors.proofs.names.name_with_number.Goals as goal

pub returns : goal.returns
returns c =
    let stem = c.args.stem.now in
    let n = c.args.number in
    IfOk-weaker c.format.result (λ s. string_bytes s ≡ stem ++ (codes "-" ++ decimal n)) _
    (λ s e. ap chars e ∙ numbered_is stem n c.utf8.stem (search rules)) c.format.ensures.ok
