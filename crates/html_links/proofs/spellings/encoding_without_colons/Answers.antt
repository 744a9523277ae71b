use Rattle.std.proofs.Common.{◌≡◌, IfOk, subst}
use Rattle.html_names_core.specs.Texts.{text_view}
use Rattle.html_links.{proofs.SpelledNames.{encoding_of_bytes, colon_set_is}, specs.Spellings.{is_in_colon_set}}
use Rattle.html_links.specs.declared.spellings.TheConstants.{COLON}
use Rattle.html_links.proofs.spellings.encoding_without_colons.Goals as goal

pub returns : goal.returns
returns c =
    subst (λ bs. IfOk c.encoding.result (λ made. text_view made ≡ bs))
    (encoding_of_bytes COLON is_in_colon_set colon_set_is c.args.name.now c.utf8.name) c.encoding.ensures
