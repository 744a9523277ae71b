use Rattle.std.proofs.Common.{◌≡◌, drop}
use Rattle.html_names_core.specs.Texts.{text_view}
use Rattle.html_flow_construct.specs.Construct.{entries_view, entry_of}
use Rattle.html_flow_construct.proofs.construction.entry_for.Given as goal

abbrev pub invariant-loop-entry : goal.invariant-loop-entry
invariant-loop-entry l =
    entry_of (entries_view (drop l.entry-index l.entries)) (text_view l.name)
    ≡ entry_of (entries_view l.entries) (text_view l.name)
