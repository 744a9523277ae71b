use Rattle.std.proofs.Common.{◌≡◌, drop, map}
use Rattle.html_names_core.specs.Names.{stands_in}
use Rattle.html_names_core.proofs.lookup.stands_in.Given as goal

abbrev pub invariant-loop-name : goal.invariant-loop-name
invariant-loop-name l =
    stands_in (map (λ n. n.now) (drop l.name-index l.names)) l.text
    ≡ stands_in (map (λ n. n.now) l.names) l.text
