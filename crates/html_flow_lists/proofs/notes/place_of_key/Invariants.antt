use Rattle.std.proofs.Common.{◌≡◌, ◌+◌, chars, drop, map}
use Rattle.html_flow_lists.specs.{ListViews.{note_view}, Notes.{place_of_key}}
use Rattle.html_flow_lists.proofs.notes.place_of_key.Given as goal

abbrev pub invariant-loop-note : goal.invariant-loop-note
invariant-loop-note l = record {
  counted : l.place ≡ l.note-index;
  agrees : l.place + place_of_key (chars l.key) (map note_view (drop l.note-index l.notes))
      ≡ place_of_key (chars l.key) (map note_view l.notes);
}
