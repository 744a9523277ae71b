use Rattle.std.proofs.Common.{◌≡◌, IfOk, subst}
use Rattle.html_names_core.specs.Texts.{text_view}
use Rattle.html_links.{proofs.SpelledNames.{any_set_is, encoding_of_bytes}, specs.Spellings.{is_any}}
use Rattle.html_links.specs.declared.spellings.TheConstants.{ANY}
use Rattle.html_links.proofs.spellings.full_encoding.Goals as goal

pub returns : goal.returns
returns c =
    subst (λ bs. IfOk c.encoding.result (λ made. text_view made ≡ bs))
    (encoding_of_bytes ANY is_any any_set_is c.args.name.now c.utf8.name) c.encoding.ensures
