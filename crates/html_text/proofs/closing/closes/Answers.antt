use Rattle.std.{proofs.Common.{◌≡◌, ◌∷◌, chars, map, sym, ap, ◌∙◌}, proofs.lemmas.Str.{chars_past_char}, specs.Char.{to_ascii_lowercase}}
use Rattle.std.specs.Str.Iter.{chars_rest}
use Rattle.html_text.specs.ClosingTags as ending
use Rattle.html_text.proofs.closing.closes.Goals as goal

pub returns-then-c-eq47 : goal.returns-then-c-eq47
returns-then-c-eq47 c =
    let text = c.args.text.now in
    let name = map to_ascii_lowercase (chars c.args.name.now) in
    let past = chars_rest c.next.new.self in
    let all : chars text ≡ 47 ∷ chars c.as_str.result.now =
    chars_past_char text past c.in-Some.c c.utf8.text
    (sym c.chars-left.ensures.rest ∙ c.in-Some.ensures.steps.0)
    ∙ (ap (λ d. d ∷ chars past) c.if-c-eq47.true ∙ ap (λ r. 47 ∷ chars r) (sym c.as_str.ensures)) in
    c.begins_with_name.ensures ∙ sym (ap (ending.begins_closing (47 ∷ name)) all)
