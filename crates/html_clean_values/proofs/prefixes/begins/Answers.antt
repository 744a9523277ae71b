use Rattle.std.proofs.Common.{◌∙◌}
use Rattle.std.proofs.lemmas.Str.Pattern.{starts_text}
use Rattle.html_clean_values.proofs.Prefixing.{starts_chars}
use Rattle.html_clean_values.proofs.prefixes.begins.Goals as goal

pub returns : goal.returns
returns c =
    starts_text _ c.args.prefix.now c.args.text.now c.starts_with.ensures.cases
    ∙ starts_chars c.args.text.now c.args.prefix.now c.utf8.text c.utf8.prefix
