use Rattle.std.proofs.{Common.{◌≡◌, ap, ◌∙◌, refl, [], get_or, String, Global, arith}, lemmas.List.{get_or_default}}
use Rattle.std.specs.Vec.{with_item}
use Rattle.html_dom_tree.{proofs.Attributes.{Item}, specs.declared.attrs.HtmlAttrs.{HtmlAttrs}}
use Rattle.html_dom_tree.proofs.attrs.HtmlAttrs.value_mut.Goals as goal

pub returns : goal.returns
returns c =
    let attrs = c.args.self.now in
    let pair = c.index_mut.result.now in
    let here : (other : Item) → pair ≡ get_or attrs.0.items c.args.place other =
    λ other. c.index_mut.ensures.value
    ∙ get_or_default attrs.0.items c.args.place pair other
    (omega (arith, c.requires, attrs.0.ok.0)) in
    let with_pair : String Global → Item → HtmlAttrs =
    λ value p. record { 0 = with_item attrs.0 c.args.place (p.0, value) } in (
      (refl, λ value. ap (with_pair value) (here ([], value))),
      record { writes_back = tt; value = ap (λ p. p.1) (here ([], pair.1)) },
    )
