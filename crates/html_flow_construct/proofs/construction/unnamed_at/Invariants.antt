use Rattle.std.proofs.Common.{◌≡◌, ◌+◌, drop, option_map}
use Rattle.html_flow_construct.specs.{ArgumentPieces.{unnamed_at}, Construct.{args_view}}
use Rattle.html_flow_construct.proofs.construction.unnamed_at.Given as goal

abbrev pub invariant-loop-place : goal.invariant-loop-place
invariant-loop-place l =
    unnamed_at (args_view l.args)
    ≡ option_map (λ k. l.place + k) (unnamed_at (args_view (drop l.place l.args)))
