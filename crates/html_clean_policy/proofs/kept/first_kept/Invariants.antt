use Rattle.std.proofs.Common.{◌≡◌, ◌-◌, ◌≤◌, ◌++◌, drop, length, map, take}
use Rattle.html_dom_tree.specs.Views.{attrs_view, pair_view}
use Rattle.html_clean_policy.specs.{KeptAttrs.{pairs_kept}, PolicyViews.{policy_view}}
use Rattle.html_clean_policy.proofs.kept.first_kept.Given as goal

abbrev pub invariant-loop-attr : goal.invariant-loop-attr
invariant-loop-attr l = record {
  within : length (attrs_view l.kept) ≤ l.most;
  rest : attrs_view l.kept ++ take (l.most - length (attrs_view l.kept))
      (pairs_kept (policy_view l.policy) l.tag (map pair_view (drop l.attr-index l.attr-items)))
      ≡ take l.most (pairs_kept (policy_view l.policy) l.tag (map pair_view l.attr-items));
}
