use Rattle.std.proofs.{Common.{string_bytes}, lemmas.Str.{IsUtf8-string_bytes}}
use Rattle.html_names_core.proofs.Texts.{chars_add}
use Rattle.html_dom_tree.proofs.text.add_text.Goals as goal

pub returns : goal.returns
returns c =
    chars_add (string_bytes c.args.text.now) _ c.args.more.now
    (IsUtf8-string_bytes c.args.text.now) c.in_ok-push_str.ensures.bytes
