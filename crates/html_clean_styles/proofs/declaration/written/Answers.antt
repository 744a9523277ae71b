use Rattle.std.proofs.Common.{◌++◌, chars, sym, ap, ◌∙◌}
use Rattle.html_names_core.specs.Texts.{text_view, texts_view}
use Rattle.html_clean_styles.proofs.Names.{all_written, none_written}
use Rattle.html_clean_styles.proofs.declaration.written.Goals as goal

pub returns-then-not-stays : goal.returns-then-not-stays
returns-then-not-stays c =
    c.into_string.ensures
    ∙ (c.new-made.ensures
    ∙ sym (none_written (texts_view c.args.properties.now) (text_view c.args.name.now)
    (chars c.args.value.now) c.stays.result c.stays.ensures c.if-not-stays.true))

pub returns : goal.returns
returns c =
    c.into_string-2.ensures
    ∙ all_written (texts_view c.args.properties.now) (text_view c.args.name.now) (chars c.args.value.now)
    c.new-made.result c.push_str.new.self c.push_ascii.new.self c.push_str-2.new.self c.stays.result
    c.stays.ensures c.if-not-stays.false c.new-made.ensures
    (c.in_ok-push_str.ensures.added ∙ ap (λ s. c.new-made.result ++ chars s) c.as_str.ensures.value)
    c.in_ok-push_ascii.ensures.added c.in_ok-push_str-2.ensures.added
