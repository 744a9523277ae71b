use Rattle.std.proofs.Common.{chars, filter, is_some, if◌then◌else◌, sym, ap, ◌∙◌}
use Rattle.html_names_core.specs.Texts.{texts_view}
use Rattle.html_links.specs.{Indicated.{is_kept}, Scripts.{url_begin}}
use Rattle.html_clean_values.proofs.SchemeSteps.{allowed_is}
use Rattle.html_clean_values.specs.{SchemeTests.{one_is_scheme}, Urls.{scheme_at}}
use Rattle.html_clean_values.proofs.urls.url_is_allowed.Goals as goal

pub returns-then-has_scheme : goal.returns-then-has_scheme
returns-then-has_scheme c =
    let schemes = texts_view c.args.schemes.now in
    let url = url_begin (chars c.args.url.now) in
    let begin = ap (filter is_kept) c.past_blanks-begin.ensures in
    let has = sym c.has_scheme.ensures ∙ c.if-has_scheme.true in
    c.has_one_of.ensures
    ∙ (ap (one_is_scheme schemes) begin
    ∙ (ap (λ b. if b then one_is_scheme schemes url else c.args.relative)
    (sym has ∙ ap (λ s. is_some (scheme_at s)) begin)
    ∙ sym (allowed_is schemes c.args.relative (chars c.args.url.now))))

pub returns-else-has_scheme : goal.returns-else-has_scheme
returns-else-has_scheme c =
    let schemes = texts_view c.args.schemes.now in
    let url = url_begin (chars c.args.url.now) in
    let begin = ap (filter is_kept) c.past_blanks-begin.ensures in
    let has = sym c.has_scheme.ensures ∙ c.if-has_scheme.false in
    ap (λ b. if b then one_is_scheme schemes url else c.args.relative)
    (sym has ∙ ap (λ s. is_some (scheme_at s)) begin)
    ∙ sym (allowed_is schemes c.args.relative (chars c.args.url.now))
