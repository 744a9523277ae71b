use Rattle.std.proofs.Common.{chars}
use Rattle.html_names_core.specs.Names.{texts}
use Rattle.html_page_names.proofs.Capitals.{with_capitals_at, without_capitals}
use Rattle.html_page_names.proofs.foreign_names.name_in.Goals as goal

pub returns-in_err-place : goal.returns-in_err-place
returns-in_err-place c =
    rw c.from_residual.ensures
    (without_capitals (texts c.args.names.now) (texts c.args.small.now) (chars c.args.name.now)
    c.requires.small c.in_err-place.ensures)

pub returns : goal.returns
returns c =
    with_capitals_at c.args.names.now (texts c.args.small.now) (chars c.args.name.now)
    c.in_ok-place.place c.from.result _ c.requires.small c.requires.rises c.requires.valid
    c.in_ok-place.ensures c.from.ensures
