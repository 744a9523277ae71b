use Rattle.std.proofs.Common.{◌≡◌, map, take}
use Rattle.html_flow_lists.specs.ListViews.{note_view}
use Rattle.html_flow_lists.proofs.notes.Notes.try_clone.Given as goal

abbrev pub invariant-loop-note : goal.invariant-loop-note
invariant-loop-note l = map note_view l.notes.items ≡ map note_view (take l.note-index l.self.notes.items)
