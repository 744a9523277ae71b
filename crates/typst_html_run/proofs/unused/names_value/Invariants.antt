use Rattle.std.proofs.Common.{◌≡◌, map, take}
use Rattle.serde_json.specs.{Data.{string}, View.{view}}
use Rattle.typst_html_run.specs.Words.{texts_of}
use Rattle.typst_html_run.proofs.unused.names_value.Given as goal

abbrev pub invariant-loop-name : goal.invariant-loop-name
invariant-loop-name l =
    map view l.values.items ≡ map string (texts_of (take l.name-index l.names))
