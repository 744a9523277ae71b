use Rattle.std.proofs.Common.{◌≡◌, IfOk, chars, subst}
use Rattle.html_names_core.specs.Texts.{text_view}
use Rattle.html_links.{proofs.TakenFragments.{url_fragment_bytes}, specs.Spellings.{encoding, is_in_fragment_set}}
use Rattle.html_links.proofs.indicated.url_fragment.Goals as goal

pub returns-clause-text : goal.returns-clause-text
returns-clause-text c =
    subst (λ cs. IfOk c.fragment_encoding.result
    (λ made. text_view made ≡ encoding is_in_fragment_set cs))
    c.without_directive.ensures c.fragment_encoding.ensures

pub returns-clause-bytes : goal.returns-clause-bytes
returns-clause-bytes c =
    url_fragment_bytes c.fragment_encoding.result (chars c.args.fragment.now)
    (returns-clause-text c)
