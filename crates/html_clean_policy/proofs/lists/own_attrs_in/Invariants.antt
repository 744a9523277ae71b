use Rattle.std.proofs.Common.{◌≡◌, take}
use Rattle.html_clean_policy.specs.Tables.{text_pairs}
use Rattle.html_clean_policy.proofs.lists.own_attrs_in.Given as goal

abbrev pub invariant-loop-tag : goal.invariant-loop-tag
invariant-loop-tag l = l.made.items ≡ text_pairs (take l.tag-index l.pairs)
