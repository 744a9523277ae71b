use Rattle.std.{proofs.Common.{◌≡◌, IfOk, chars, map, subst, ap, ◌∙◌}, specs.Char.{to_ascii_lowercase}}
use Rattle.html_names_core.specs.Texts.{text_view, texts_view}
use Rattle.html_clean_styles.proofs.Names.{declared_is}
use Rattle.html_clean_styles.proofs.declaration.declared.Goals as goal

pub returns : goal.returns
returns c =
    subst (λ t. IfOk c.written.result (λ made. text_view made ≡ t))
    (declared_is (texts_view c.args.properties.now) (chars c.args.before.now) (chars c.args.behind.now)
    (text_view c.in_ok-squeezed_name.squeezed_name) (text_view c.in_ok-name.name) (chars c.as_str-2.result.now)
    c.in_ok-squeezed_name.ensures
    (c.in_ok-name.ensures ∙ ap (λ s. map to_ascii_lowercase (chars s)) c.as_str.ensures.value)
    (ap chars c.as_str-2.ensures.value ∙ c.in_ok-value.ensures))
    c.written.ensures
