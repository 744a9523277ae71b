use Rattle.std.proofs.Common.{◌≡◌, ◌+◌, map, drop}
use Rattle.html_dom_tree.specs.{Attributes.{place}, Views.{pair_view}}
use Rattle.html_dom_tree.proofs.attrs.HtmlAttrs.place.Given as goal

abbrev pub invariant-loop-pair : goal.invariant-loop-pair
invariant-loop-pair l = record {
  here : l.place ≡ l.pair-index;
  rest : l.place + place (map pair_view (drop l.pair-index l.pair-items)) l.attr
      ≡ place (map pair_view l.pair-items) l.attr;
}
