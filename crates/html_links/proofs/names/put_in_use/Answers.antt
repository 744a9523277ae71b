use Rattle.std.proofs.{Common.{map, ap, ◌∙◌}, Math.Path.{fun_ext}}
use Rattle.html_names_core.specs.{Names.{stands_in}, Texts.{text_view}}
use Rattle.html_links.proofs.UsedNames.{insert_is, still_used}
use Rattle.html_links.proofs.names.put_in_use.Goals as goal

pub returns-clause-ok : goal.returns-clause-ok
returns-clause-ok c =
    ap (λ keys. stands_in (map text_view keys)) c.in_ok-insert.ensures.keys
    ∙ fun_ext (insert_is c.args.used.now.keys c.args.name)

pub returns-clause-grows : goal.returns-clause-grows
returns-clause-grows c = λ n e.
    ap (λ keys. stands_in (map text_view keys) n) c.in_ok-insert.ensures.keys
    ∙ still_used c.args.used.now.keys c.args.name n e
