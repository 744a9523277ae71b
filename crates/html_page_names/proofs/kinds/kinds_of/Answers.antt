use Rattle.std.proofs.Common.{chars, subst}
use Rattle.html_names_core.specs.Held.{IsLookup}
use Rattle.html_page_names.proofs.KindTable.{names, of_known}
use Rattle.html_page_names.proofs.kinds.kinds_of.Goals as goal

pub returns-in-Some : goal.returns-in-Some
returns-in-Some c k =
    let text = chars c.args.name.now in
    of_known text c.in-Some.place (subst (IsLookup names text) c.in-Some.is c.place_of.ensures) k
