use Rattle.std.proofs.{Common.{◌<◌, arith, length}, lemmas.List.{length-map}}
use Rattle.html_dom_tree.specs.Views.{attrs_view, pair_view}
use Rattle.html_clean_policy.proofs.FirstKept.{one_kept, still_within}
use Rattle.html_clean_policy.specs.{KeptAttrs.{kept_pair}, PolicyViews.{policy_view}}
use Rattle.html_clean_policy.proofs.kept.first_kept.Goals as goal

pub loop-attr-preserved : goal.loop-attr-preserved
loop-attr-preserved c =
    let at = c.loop-attr in
    let f = kept_pair (policy_view c.args.policy.now) c.args.tag.now in
    let below : length (attrs_view at.kept) < c.args.most =
    let count = length-map at.kept.0.items pair_view in
    omega (arith, count, c.len.ensures, c.if-len-most.false, at.kept.0.ok.0) in
    record {
      within = still_within f c.args.most c.loop-attr-item.result (attrs_view at.kept) _ below
          c.in_ok-add_kept.ensures;
      rest = one_kept f c.args.most at.attr-index c.deref-attr-items.result.now
          c.loop-attr-item.result (attrs_view at.kept) _ _ c.loop-attr-test.true
          c.loop-attr-item.is below at.invariant.rest c.in_ok-add_kept.ensures;
    }
