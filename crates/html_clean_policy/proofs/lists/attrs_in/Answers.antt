use Rattle.std.{proofs.Common.{ℕ, List, [], get_or}, specs.Borrow.{Bor}}
use Rattle.html_page_names.specs.Capitals.{is_name}
use Rattle.html_clean_policy.proofs.TableNames.{name_ascii, name_of_attr, passes_at}
use Rattle.html_clean_policy.proofs.lists.attrs_in.Goals as goal

pub constant-requires-clause-ascii : goal.constant-requires-clause-ascii
constant-requires-clause-ascii c =
    let none : Bor (List ℕ) = record { ref_ptr = (0, 0); now = [] } in
    name_ascii (get_or c.args.names.now c.loop-name.name-index none).now
    (passes_at is_name (λ (n : Bor (List ℕ)). n.now) c.args.names.now c.loop-name.name-index none
    c.requires c.loop-name-test.true)

pub constant-requires-clause-valid : goal.constant-requires-clause-valid
constant-requires-clause-valid c =
    name_of_attr _ (passes_at is_name (λ n. n.now) c.args.names.now c.loop-name.name-index _ c.requires
    c.loop-name-test.true)
