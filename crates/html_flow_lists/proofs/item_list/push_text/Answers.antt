use Rattle.std.proofs.lemmas.Str.{IsUtf8-string_bytes}
use Rattle.html_names_core.proofs.Texts.{chars_add}
use Rattle.html_flow_lists.proofs.item_list.push_text.Goals as goal

pub returns-clause-ok : goal.returns-clause-ok
returns-clause-ok c =
    chars_add _ _ c.args.more.now (IsUtf8-string_bytes c.args.text.now)
    c.in_ok-push_str.ensures.bytes
