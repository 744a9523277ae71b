use Rattle.std.proofs.Common.{◌≡◌, take}
use Rattle.html_names_core.specs.{Names.{texts}, Texts.{texts_view}}
use Rattle.html_clean_policy.proofs.lists.texts_in.Given as goal

abbrev pub invariant-loop-name : goal.invariant-loop-name
invariant-loop-name l = texts_view l.made.items ≡ texts (take l.name-index l.names)
