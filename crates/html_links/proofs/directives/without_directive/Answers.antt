use Rattle.html_links.proofs.CutFragments.{first_found, nothing_found}
use Rattle.html_links.proofs.directives.without_directive.Goals as goal

pub returns-in-Some : goal.returns-in-Some
returns-in-Some c =
    let found = c.in-Some.ensures.cases in
    first_found c.args.fragment.now c.utf8.fragment found.0 found.1 c.in-Some.before.now found.2 found.3
    found.6

pub returns-in-None : goal.returns-in-None
returns-in-None c = nothing_found c.args.fragment.now c.utf8.fragment c.in-None.ensures.cases
