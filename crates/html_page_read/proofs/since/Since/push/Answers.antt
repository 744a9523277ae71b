use Rattle.std.proofs.lemmas.Str.{IsUtf8-string_bytes}
use Rattle.html_names_core.proofs.Texts.{chars_push}
use Rattle.html_page_read.proofs.since.Since.push.Goals as goal

pub returns : goal.returns
returns c =
    chars_push _ _ c.args.c (IsUtf8-string_bytes c.args.self.now.text) c.ranges.c.0
    c.in_ok-push.ensures.bytes
