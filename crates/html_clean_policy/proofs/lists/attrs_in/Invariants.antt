use Rattle.std.proofs.Common.{◌≡◌, take}
use Rattle.html_names_core.specs.Names.{texts}
use Rattle.html_clean_policy.proofs.lists.attrs_in.Given as goal

abbrev pub invariant-loop-name : goal.invariant-loop-name
invariant-loop-name l = l.made.items ≡ texts (take l.name-index l.names)
