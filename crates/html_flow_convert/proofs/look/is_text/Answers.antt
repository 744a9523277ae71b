use Rattle.std.proofs.Common.{ap, sym, ◌∙◌, bytes_eq, chars}
use Rattle.html_names_core.proofs.Lists.{bytes_eq-chars, chars_ascii}
use Rattle.html_flow_convert.proofs.look.is_text.Goals as goal

pub returns : goal.returns
returns c =
    let text = c.args.text.now in
    let expected = c.args.expected.now in
    c.eq.ensures ∙ (sym (bytes_eq-chars text expected c.utf8.text c.utf8.expected)
    ∙ ap (bytes_eq (chars text)) (chars_ascii expected c.requires))
