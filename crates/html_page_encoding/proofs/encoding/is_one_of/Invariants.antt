use Rattle.std.{proofs.Common.{◌≡◌, drop, map}, specs.Char.{to_ascii_lowercase}}
use Rattle.html_names_core.specs.Names.{stands_in, texts}
use Rattle.html_page_encoding.proofs.encoding.is_one_of.Given as goal

abbrev pub invariant-loop-known : goal.invariant-loop-known
invariant-loop-known l =
    stands_in (map (map to_ascii_lowercase) (texts (drop l.known-index l.labels)))
    (map to_ascii_lowercase l.label)
    ≡ stands_in (map (map to_ascii_lowercase) (texts l.labels)) (map to_ascii_lowercase l.label)
