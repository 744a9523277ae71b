use Rattle.std.proofs.{Common.{◌≡◌, Some, string_bytes, bytes_eq, codes, sym, ap, ◌∙◌}, lemmas.Str.{IsUtf8-string_bytes}}
use Rattle.std.specs.Prelude.{option_map}
use Rattle.html_names_core.{proofs.Lists.{bytes_eq-ascii}, specs.Tables.{known_attrs}}
use Rattle.html_dom_tree.specs.{Attributes.{first}, Views.{text_view, attrs_view}}
use Rattle.html_dom_shown.specs.Values.{is_text}
use Rattle.html_page_text.proofs.style.style_is.Goals as goal

pub returns : goal.returns
unfolding known_attrs
returns c =
    let style = c.args.style.now in
    let text = c.in-Some.value.now in
    let is : Some (text_view text) ≡ first (attrs_view c.args.attrs.now) (codes "style") =
    ap (option_map (λ v. text_view v.now)) (sym c.in-Some.is) ∙ c.get.ensures in
    c.eq.ensures ∙ (ap (bytes_eq style) c.as_str.ensures.value
    ∙ (sym (bytes_eq-ascii style (string_bytes text) c.requires (IsUtf8-string_bytes text))
    ∙ ap (is_text style) is))
