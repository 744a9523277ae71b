use Rattle.std.proofs.Common.{◌≡◌, drop, bytes_eq}
use Rattle.html_page_names.specs.ForeignNames.{lowered}
use Rattle.html_page_names.proofs.foreign_names.are_same_lowered.Given as goal

abbrev pub invariant-loop-place : goal.invariant-loop-place
invariant-loop-place l =
    bytes_eq (lowered (drop l.place l.bytes)) (drop l.place l.lowered_bytes)
    ≡ bytes_eq (lowered l.bytes) l.lowered_bytes
