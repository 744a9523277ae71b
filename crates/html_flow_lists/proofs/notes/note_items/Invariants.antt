use Rattle.std.{proofs.Common.{◌≡◌, suc, ◌+◌, ◌++◌, length, map}, specs.Vec.Iter.{into_iter_items}}
use Rattle.html_flow_convert.specs.Views.{pairs_view}
use Rattle.html_flow_lists.specs.{ListViews.{note_view}, Notes.{note_items}}
use Rattle.html_flow_lists.proofs.notes.note_items.Given as goal

abbrev pub invariant-loop-note : goal.invariant-loop-note
invariant-loop-note l = record {
  agrees : pairs_view l.items.items
      ++ note_items (suc l.number) (map note_view (into_iter_items l.note-iterator))
      ≡ note_items 1 (map note_view l.fn.notes.items);
  count : l.number + length (into_iter_items l.note-iterator) ≡ length l.fn.notes.items;
}
