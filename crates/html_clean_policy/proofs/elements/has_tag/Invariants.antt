use Rattle.std.proofs.Common.{◌≡◌, drop}
use Rattle.html_names_core.specs.Names.{stands_in}
use Rattle.html_clean_policy.proofs.elements.has_tag.Given as goal

abbrev pub invariant-loop-name : goal.invariant-loop-name
invariant-loop-name l = stands_in (drop l.name-index l.names) l.tag ≡ stands_in l.names l.tag
