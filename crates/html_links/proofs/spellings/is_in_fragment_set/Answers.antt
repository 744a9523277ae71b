use Rattle.std.proofs.Common.{◌<◌, ◌∙◌, rules}
use Rattle.html_links.proofs.SpelledNames.{contains_fragment}
use Rattle.html_links.proofs.spellings.is_in_fragment_set.Goals as goal

pub returns-else-c-gt126 : goal.returns-else-c-gt126
returns-else-c-gt126 c =
    let small : c.args.c < 128 = search rules in
    c.contains.ensures ∙ contains_fragment c.args.c small
