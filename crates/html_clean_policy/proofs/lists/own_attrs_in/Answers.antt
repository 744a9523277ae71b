use Rattle.std.{proofs.Common.{ℕ, List, [], get_or}, specs.Borrow.{Bor}}
use Rattle.html_clean_policy.proofs.TableNames.{name_ascii, name_of_attr, name_of_tag, pair_named}
use Rattle.html_clean_policy.proofs.lists.own_attrs_in.Goals as goal

pub constant-requires : goal.constant-requires
constant-requires c =
    name_of_tag _
    (pair_named c.args.pairs.now c.loop-tag.tag-index _ c.requires c.loop-tag-test.true).0

pub constant-requires-in-loop-tag-clause-ascii : goal.constant-requires-in-loop-tag-clause-ascii
constant-requires-in-loop-tag-clause-ascii c =
    let none : Bor (List ℕ) = record { ref_ptr = (0, 0); now = [] } in
    let nones : Bor (List ℕ) × Bor (List ℕ) = (none, none) in
    name_ascii (get_or c.args.pairs.now c.loop-tag.tag-index nones).1.now
    (pair_named c.args.pairs.now c.loop-tag.tag-index nones c.requires c.loop-tag-test.true).1

pub constant-requires-in-loop-tag-clause-valid : goal.constant-requires-in-loop-tag-clause-valid
constant-requires-in-loop-tag-clause-valid c =
    name_of_attr _
    (pair_named c.args.pairs.now c.loop-tag.tag-index _ c.requires c.loop-tag-test.true).1
