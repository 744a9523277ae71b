use Rattle.html_names_core.specs.Names.{is_ascii}
use Rattle.html_clean_policy.proofs.TableNames.{passes_at}
use Rattle.html_clean_policy.proofs.lists.texts_in.Goals as goal

pub text_in-requires : goal.text_in-requires
text_in-requires c =
    passes_at is_ascii (λ n. n.now) c.args.names.now c.loop-name.name-index _ c.requires
    c.loop-name-test.true
