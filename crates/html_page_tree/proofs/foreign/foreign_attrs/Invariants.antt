use Rattle.std.{proofs.Common.{◌≡◌, ◌++◌, map}, specs.Vec.Iter.{into_iter_items}}
use Rattle.html_dom_tree.specs.Views.{attrs_view, pair_view}
use Rattle.html_page_tree.specs.PageBodies.{foreign_attrs}
use Rattle.html_page_tree.proofs.foreign.foreign_attrs.Given as goal

abbrev pub invariant-loop-attr : goal.invariant-loop-attr
invariant-loop-attr l =
    attrs_view l.made ++ foreign_attrs l.space (map pair_view (into_iter_items l.attr-iterator))
    ≡ foreign_attrs l.space (attrs_view l.fn.attrs)
