use Rattle.std.proofs.Common.{◌≡◌, drop}
use Rattle.html_names_core.specs.Names.{stands_in}
use Rattle.html_clean_policy.proofs.names.holds.Given as goal

abbrev pub invariant-loop-name : goal.invariant-loop-name
invariant-loop-name l = stands_in (drop l.name-index l.names) l.attr ≡ stands_in l.names l.attr
