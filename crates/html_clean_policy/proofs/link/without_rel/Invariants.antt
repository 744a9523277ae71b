use Rattle.std.{proofs.Common.{◌≡◌, ◌++◌, map}, specs.Vec.Iter.{into_iter_items}}
use Rattle.html_dom_tree.specs.Views.{attrs_view, pair_view}
use Rattle.html_clean_policy.specs.LinkRels.{without_rel}
use Rattle.html_clean_policy.proofs.link.without_rel.Given as goal

abbrev pub invariant-loop-attr : goal.invariant-loop-attr
invariant-loop-attr l =
    attrs_view l.made ++ without_rel (map pair_view (into_iter_items l.attr-iterator))
    ≡ without_rel (attrs_view l.fn.attrs)
