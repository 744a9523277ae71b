use Rattle.std.proofs.Common.{◌∙◌, ap, chars}
use Rattle.html_names_core.proofs.Lists.{chars_ascii}
use Rattle.typst_html_export.proofs.head.ascii_text.Goals as goal

pub returns : goal.returns
returns c = ap chars c.in_ok-from_str.ensures.ok ∙ chars_ascii c.args.text.now c.requires
