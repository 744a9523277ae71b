use Rattle.std.proofs.Common.{◌≡◌, ◌++◌, ap, ◌∙◌, chars, string_bytes}
use Rattle.std.proofs.lemmas.{Fmt.{IsAscii-decimal}, Result.{IfOk-weaker}, Str.{chars-append, chars-IsAscii}}
use Rattle.std.specs.Prelude.{decimal}
use Rattle.html_names_core.proofs.Lists.{chars_ascii}
use Rattle.html_flow_lists.proofs.notes.numbered.Goals as goal

pub returns : goal.returns
returns c =
    let stem = c.args.stem.now in
    let n = c.args.number in
    IfOk-weaker c.format.result (λ s. string_bytes s ≡ stem ++ decimal n) _
    (λ s e. ap chars e
    ∙ chars-append stem (decimal n) c.utf8.stem
    ∙ ap (λ t. t ++ chars (decimal n)) (chars_ascii stem c.requires)
    ∙ ap (λ t. stem ++ t) (chars-IsAscii (decimal n) (IsAscii-decimal n c.ranges.number.fits)))
    c.format.ensures.ok
