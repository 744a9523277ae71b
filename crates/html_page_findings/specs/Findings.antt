-- Findings as pure values: a path, and a text of the node at that path.
use Rattle.std.specs.Prelude.{List, map}
use Rattle.html_names_core.specs.Texts.{text_view}
use Rattle.html_page_findings.specs.{PlacedTexts.{Placed}, declared.fragments.DeadFragment.{DeadFragment}}
use Rattle.html_page_findings.specs.declared.repeated.RepeatedId.{RepeatedId}

abbrev pub dead_fragment_view : DeadFragment → Placed
dead_fragment_view dead = (dead.path.items, text_view dead.fragment)

abbrev pub dead_view : List DeadFragment → List Placed
dead_view = map dead_fragment_view

abbrev pub repeated_id_view : RepeatedId → Placed
repeated_id_view repeated = (repeated.path.items, text_view repeated.id)

abbrev pub repeated_view : List RepeatedId → List Placed
repeated_view = map repeated_id_view
