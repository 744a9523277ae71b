use Rattle.std.{proofs.Common.{◌≡◌, ◌==◌, length, string_bytes, ap, ◌∙◌, rules}, specs.String.{string_len}}
use Rattle.html_anchors.proofs.NumberedNames.{nothing_is}
use Rattle.html_anchors.proofs.names.is_nothing.Goals as goal

pub returns : goal.returns
returns c =
    let text = c.args.text.now in
    let len : string_len text ≡ length (string_bytes text) = search rules in
    c.is_empty.ensures ∙ (ap (λ n. n == 0) len ∙ nothing_is text)
