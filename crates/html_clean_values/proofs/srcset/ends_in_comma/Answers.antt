use Rattle.std.proofs.Common.{lit<}
use Rattle.std.proofs.lemmas.Str.Pattern.{ends_char}
use Rattle.html_clean_values.proofs.EndCommas.{ends_chars}
use Rattle.html_clean_values.proofs.srcset.ends_in_comma.Goals as goal

pub returns : goal.returns
returns c =
    let ends = ends_char 44 c.args.url.now c.ends_with.result c.ends_with.ensures.cases (lit< tt) in
    ends_chars c.args.url.now c.utf8.url c.ends_with.result ends.0 ends.1
