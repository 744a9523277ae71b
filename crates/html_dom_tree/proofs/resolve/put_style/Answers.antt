use Rattle.std.proofs.Common.{◌≡◌, codes, Some, sym, ap, ◌∙◌}
use Rattle.html_names_core.specs.Tables.{known_attrs}
use Rattle.html_dom_tree.specs.{Attributes.{first, with_value}, Styled.{attrs_with_style}, Views.{text_view, attrs_view}}
use Rattle.html_dom_tree.proofs.resolve.put_style.Goals as goal

pub returns-in-Some : goal.returns-in-Some
unfolding known_attrs
returns-in-Some c =
    let old = attrs_view c.args.attrs.now in
    let text = text_view c.args.text in
    let there : first old (codes "style") ≡ Some (text_view c.in-Some.value.now) =
    sym c.in-Some.ensures.value in
    rw c.in-Some.is at (c.get_mut.follows.holds c.in_ok-joined-in-Some.joined)
    ∙ ap (with_value old (codes "style")) c.in_ok-joined-in-Some.ensures
    ∙ ap (attrs_with_style text old) (sym there)
