use Rattle.std.proofs.Common.{◌≡◌, ◌≤◌, ◌<◌, ap, sym, ◌∙◌, refl, [], Some, length, get_or, arith}
use Rattle.html_dom_tree.proofs.Attributes.{put, first_at, first_past}
use Rattle.html_dom_tree.specs.{Attributes.{place}, Lending.{with_text_at}, Views.{attrs_view, text_view}}
use Rattle.html_dom_tree.proofs.attrs.HtmlAttrs.get_mut.Goals as goal

pub returns-then-place-len : goal.returns-then-place-len
returns-then-place-len c =
    let attrs = c.args.self.now in
    let pairs = attrs.0.items in
    let name = c.args.attr.now in
    let here = c.place-place.ensures in
    let text = c.value_mut.result.now in
    let within : place (attrs_view attrs) name < length pairs =
    omega (arith, here, c.if-place-len.true, c.len.ensures, attrs.0.ok.0) in
    let value : text ≡ (get_or pairs (place (attrs_view attrs) name) ([], text)).1 =
    c.value_mut.ensures.value ∙ ap (λ n. (get_or pairs n ([], text)).1) here in (
      (refl, λ w. ap (λ n. attrs_view (with_text_at attrs n w)) here ∙ put name pairs w, refl),
      record {
        writes_back = tt;
        value = ap (λ s. Some (text_view s)) value ∙ sym (first_at name pairs ([], text) within);
      },
    )

pub returns : goal.returns
returns c =
    let attrs = c.args.self.now in
    let name = c.args.attr.now in
    let past : length attrs.0.items ≤ place (attrs_view attrs) name =
    omega (arith, c.place-place.ensures, c.if-place-len.false, c.len.ensures, attrs.0.ok.0) in (
      (refl, λ w. tt, refl),
      record { writes_back = tt; value = sym (first_past name attrs.0.items past) },
    )
