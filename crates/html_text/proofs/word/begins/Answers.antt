use Rattle.std.proofs.{Common.{◌∙◌}, lemmas.Str.Pattern.{starts_text}}
use Rattle.html_names_core.proofs.Basics.{is_ascii_is}
use Rattle.html_text.proofs.Words.{begins-chars}
use Rattle.html_text.proofs.word.begins.Goals as goal

pub returns : goal.returns
returns c =
    let word = c.args.word.now in
    let text = c.args.text.now in
    starts_text c.starts_with.result text word c.starts_with.ensures.cases
    ∙ begins-chars word text (is_ascii_is word c.requires) c.utf8.text
