use Rattle.std.proofs.{Common.{rules}, lemmas.Fn.{always_returns_same}}
use Rattle.html_page_read.proofs.Spaces.{spaces_past}
use Rattle.html_page_read.proofs.doctype.past_spaces.Goals as goal

pub returns : goal.returns
returns c =
    spaces_past _ c.args.text.now c.trim_start_matches.result.now c.utf8.text
    c.trim_start_matches.ensures.matches
    (always_returns_same _ _ _ (λ a r f' k. search rules))
