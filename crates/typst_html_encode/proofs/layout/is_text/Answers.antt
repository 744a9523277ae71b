use Rattle.std.proofs.{Common.{ap, sym, ◌∙◌, bytes_eq, string_bytes}, lemmas.Str.{IsUtf8-string_bytes}}
use Rattle.html_names_core.proofs.Lists.{bytes_eq-ascii}
use Rattle.typst_html_encode.proofs.layout.is_text.Goals as goal

pub returns : goal.returns
returns c =
    c.eq.ensures
    ∙ (ap (bytes_eq c.args.expected.now) c.as_str.ensures.value
    ∙ sym (bytes_eq-ascii c.args.expected.now (string_bytes c.args.text.now) c.requires
    (IsUtf8-string_bytes c.args.text.now)))
