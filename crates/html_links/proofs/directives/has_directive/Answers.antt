use Rattle.html_links.proofs.CutFragments.{contains_is}
use Rattle.html_links.proofs.directives.has_directive.Goals as goal

pub returns : goal.returns
returns c = contains_is c.args.fragment.now c.utf8.fragment c.contains.result c.contains.ensures.cases
