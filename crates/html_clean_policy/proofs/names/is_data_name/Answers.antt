use Rattle.std.proofs.{Common.{◌∙◌, refl}, lemmas.Str.Pattern.{starts_text}}
use Rattle.std.specs.Prelude.{codes}
use Rattle.html_clean_policy.proofs.DataNames.{starts-chars}
use Rattle.html_clean_policy.specs.AttrNames.{is_data_name}
use Rattle.html_clean_policy.proofs.names.is_data_name.Goals as goal

pub returns : goal.returns
unfolding is_data_name
returns c =
    let name = c.args.name.now in
    starts_text c.starts_with.result (codes "data-") name c.starts_with.ensures.cases
    ∙ starts-chars (codes "data-") name refl c.utf8.name
