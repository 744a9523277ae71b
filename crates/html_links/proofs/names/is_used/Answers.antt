use Rattle.std.proofs.{Common.{◌∙◌, string_bytes}, lemmas.Str.{IsUtf8-string_bytes}}
use Rattle.html_links.proofs.UsedNames.{contains_is}
use Rattle.html_links.proofs.names.is_used.Goals as goal

pub returns : goal.returns
returns c =
    let keys = c.args.used.now.keys in
    c.contains.ensures ∙ (rw c.as_str.ensures.value
    (contains_is keys (string_bytes c.args.name.now) (IsUtf8-string_bytes c.args.name.now)))
