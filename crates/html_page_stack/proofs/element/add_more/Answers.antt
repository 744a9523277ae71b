use Rattle.std.proofs.{Common.{string_bytes}, lemmas.Str.{IsUtf8-string_bytes}}
use Rattle.html_names_core.proofs.Texts.{chars_add}
use Rattle.html_page_stack.proofs.element.add_more.Goals as goal

pub returns-clause-longer : goal.returns-clause-longer
returns-clause-longer c =
    chars_add (string_bytes c.args.text.now) _ c.args.more.now
    (IsUtf8-string_bytes c.args.text.now) c.in_ok-push_str.ensures.bytes
