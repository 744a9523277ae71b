use Rattle.html_names_core.proofs.Held.{made, unknown, on_err, tag_long}
use Rattle.html_names_core.specs.{Characters.{is_tag_char}, Tables.{known_tags, tag_count}}
use Rattle.html_names_core.proofs.html_tag.HtmlTag.make.Goals as goal

pub returns-in_err-make-clause-memory : goal.returns-in_err-make-clause-memory
returns-in_err-make-clause-memory c =
    on_err c.from_residual.result _
    (unknown known_tags _ c.args.place c.in_err-make.ensures.memory c.requires.place)

pub invariant_of-result : goal.invariant_of-result
invariant_of-result c =
    (made tag_count known_tags is_tag_char tag_long c.args.place _ c.in_ok-make.field-0
    c.requires.valid c.requires.place c.in_ok-make.ensures.name).0

pub returns-clause-name : goal.returns-clause-name
returns-clause-name c =
    (made tag_count known_tags is_tag_char tag_long c.args.place _ c.in_ok-make.field-0
    c.requires.valid c.requires.place c.in_ok-make.ensures.name).1
