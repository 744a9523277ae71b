use Rattle.std.proofs.Common.{sym, ◌∙◌}
use Rattle.typst_html_encode.proofs.Stretches.{lone_char}
use Rattle.typst_html_encode.proofs.escape.lone_plain.Goals as goal

pub returns-in-len1 : goal.returns-in-len1
returns-in-len1 c = (
  lone_char c.args.text.now c.as_bytes.result.now c.as_bytes.ensures.value c.in-len1.len_at_least
      c.in-len1.len_below c.if-byte-lt128.true,
  sym c.is_plain_byte.ensures ∙ c.if-is_plain_byte.true,
)
