use Rattle.std.proofs.Common.{◌≡◌, drop}
use Rattle.html_clean_policy.specs.AttrNames.{has_pair}
use Rattle.html_clean_policy.proofs.names.has_pair.Given as goal

abbrev pub invariant-loop-pair : goal.invariant-loop-pair
invariant-loop-pair l =
    has_pair (drop l.pair-index l.pairs) l.tag l.attr ≡ has_pair l.pairs l.tag l.attr
