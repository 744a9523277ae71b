use Rattle.std.proofs.lemmas.Str.{IsUtf8-string_bytes}
use Rattle.html_names_core.proofs.Texts.{chars_push}
use Rattle.html_dom_tree.proofs.text.add.Goals as goal

pub returns : goal.returns
returns c =
    chars_push _ _ c.args.c (IsUtf8-string_bytes c.args.text.now) c.ranges.c.0
    c.in_ok-push.ensures.bytes
