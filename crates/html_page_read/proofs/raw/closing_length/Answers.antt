use Rattle.std.proofs.Common.{◌+◌, chars, length, sym, ap, ◌∙◌}
use Rattle.html_text.proofs.{RawEnds.{closing_long}, TagNames.{name_is}}
use Rattle.html_page_read.proofs.raw.closing_length.Goals as goal

pub returns : goal.returns
returns c =
    let name = c.args.name.now in
    ap (λ n. length n + 2) (name_is name c.utf8.name c.requires)
    ∙ sym (closing_long (chars name))
