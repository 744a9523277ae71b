use Rattle.std.proofs.Common.{◌≡◌, IfOk, subst}
use Rattle.html_names_core.specs.Texts.{text_view}
use Rattle.html_links.{proofs.SpelledNames.{encoding_of_bytes, fragment_set_is}, specs.Spellings.{is_in_fragment_set}}
use Rattle.html_links.specs.declared.spellings.TheConstants.{FRAGMENT}
use Rattle.html_links.proofs.spellings.fragment_encoding.Goals as goal

pub returns : goal.returns
returns c =
    subst (λ bs. IfOk c.encoding.result (λ made. text_view made ≡ bs))
    (encoding_of_bytes FRAGMENT is_in_fragment_set fragment_set_is c.args.text.now c.utf8.text) c.encoding.ensures
