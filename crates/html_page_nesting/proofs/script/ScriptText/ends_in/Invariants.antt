use Rattle.std.proofs.Common.{◌≡◌, bytes_eq, drop, map}
use Rattle.std.specs.Char.{to_ascii_lowercase}
use Rattle.html_page_nesting.proofs.script.ScriptText.ends_in.Given as goal

abbrev pub invariant-loop-index : goal.invariant-loop-index
invariant-loop-index l =
    bytes_eq (map to_ascii_lowercase (drop l.index l.end)) (drop l.index l.word)
    ≡ bytes_eq (map to_ascii_lowercase l.end) l.word
