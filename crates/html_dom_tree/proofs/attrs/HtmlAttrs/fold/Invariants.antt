use Rattle.std.{proofs.Common.{◌≡◌, ◌+◌, ◌≤◌, map, length, vec_len}, specs.Vec.{vec_capacity}, specs.Vec.Iter.{into_iter_items}}
use Rattle.html_dom_tree.specs.{Attributes.{union}, Views.{attrs_view, pair_view}}
use Rattle.html_dom_tree.proofs.attrs.HtmlAttrs.fold.Given as goal

abbrev pub invariant-loop-attr : goal.invariant-loop-attr
invariant-loop-attr l = record {
  rest : union (attrs_view l.self) (map pair_view (into_iter_items l.attr-iterator))
      ≡ union (attrs_view l.fn.self) (attrs_view l.fn.outer);
  room : vec_len l.self.0 + length (into_iter_items l.attr-iterator) ≤ vec_capacity l.self.0;
}
