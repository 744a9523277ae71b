use Rattle.html_page_names.specs.Capitals.{is_name}
use Rattle.html_clean_policy.proofs.TableNames.{name_of_tag, passes_at}
use Rattle.html_clean_policy.proofs.lists.tags_in.Goals as goal

pub constant-requires : goal.constant-requires
constant-requires c =
    name_of_tag _ (passes_at is_name (λ n. n.now) c.args.names.now c.loop-name.name-index _ c.requires
    c.loop-name-test.true)
