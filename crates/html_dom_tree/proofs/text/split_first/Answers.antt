use Rattle.std.proofs.{Common.{◌++◌, sym, ap, ◌∙◌}, lemmas.Str.{chars_past_char}}
use lib.Utf8.{encode}
use Rattle.html_dom_tree.proofs.text.split_first.Goals as goal

pub returns-in-Some : goal.returns-in-Some
returns-in-Some c =
    let d = c.in-Some.first in
    let text = c.args.text.now in
    let later = c.as_str.result.now in
    chars_past_char text later d c.utf8.text (sym c.chars-left.ensures.rest
    ∙ (c.in-Some.ensures.steps.0 ∙ ap (λ l. encode d ++ l) (sym c.as_str.ensures)))
