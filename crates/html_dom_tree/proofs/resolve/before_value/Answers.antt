use Rattle.std.proofs.{Common.{◌≡◌, ◌<◌, length, ap, sym, ◌∙◌, ◌++◌, codes, chars, string_bytes, rules}, lemmas.Str.{IsUtf8-string_bytes}}
use Rattle.html_names_core.proofs.Texts.{chars_add}
use Rattle.html_dom_tree.{proofs.Styles.{before_nothing, before_some}, specs.Views.{text_view}}
use Rattle.html_values_css.proofs.Styles.{semicolon_chars}
use Rattle.html_dom_tree.proofs.resolve.before_value.Goals as goal

pub returns-then-is_empty : goal.returns-then-is_empty
returns-then-is_empty c =
    let value = string_bytes c.args.value.now in
    let none : length value ≡ 0 = search rules in
    sym (before_nothing (text_view c.args.text) value none)

pub returns : goal.returns
returns c =
    let text = text_view c.args.text in
    let joined = c.push_str.new.self in
    let value = c.args.value.now in
    let pushed = c.as_str.result.now in
    let some : 0 < length (string_bytes value) = search rules in
    let one : text_view joined ≡ text ++ codes "; " =
    chars_add _ _ (codes "; ") (IsUtf8-string_bytes c.args.text) c.in_ok-push_str.ensures.bytes
    ∙ ap (λ t. text ++ t) semicolon_chars in
    chars_add _ _ pushed (IsUtf8-string_bytes joined) c.in_ok-push_str-2.ensures.bytes
    ∙ ap (λ t. t ++ chars pushed) one
    ∙ ap (λ b. text ++ codes "; " ++ chars b) c.as_str.ensures.value
    ∙ sym (before_some text (string_bytes value) (IsUtf8-string_bytes value) some)
