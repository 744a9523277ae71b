use Rattle.std.proofs.Common.{◌≡◌, ◌==◌, ℕ, true, get_or, drop, arith, length-drop, rules}
use Rattle.std.proofs.lemmas.List.Sums.{common_prefix_len-drop_yes, common_prefix_len-le}
use Rattle.typst_html_ffi.proofs.lists.kept_count.Goals as goal

pub loop-kept-preserved : goal.loop-kept-preserved
loop-kept-preserved c =
    let previous = c.args.previous.now in
    let path = c.args.path.now in
    let i = c.loop-kept.kept in
    let equal : (get_or previous i 0 == get_or path i 0) ≡ true = search rules in
    record {
      within = omega (arith, c.if-kept-path.true);
      counted = omega (
        arith,
        c.loop-kept.invariant.counted,
        common_prefix_len-drop_yes (λ (m : ℕ) (n : ℕ). m == n) previous path i 0 0
            c.loop-kept-test.true c.if-kept-path.true equal,
      );
    }

pub returns-else-kept-path-clause-count : goal.returns-else-kept-path-clause-count
returns-else-kept-path-clause-count c =
    let path = c.args.path.now in
    let i = c.loop-kept.kept in
    omega (
      arith,
      c.loop-kept.invariant.counted,
      c.if-kept-path.false,
      length-drop i path,
      (common_prefix_len-le (λ (m : ℕ) (n : ℕ). m == n) (drop i c.args.previous.now) (drop i path)).1,
    )
