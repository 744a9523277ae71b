use Rattle.std.proofs.{Common.{◌≡◌, ◌≤◌, arith, chars, length}, lemmas.List.{length-map}}
use Rattle.html_flow_convert.specs.Views.{pairs_view}
use Rattle.html_flow_lists.{proofs.NoteKeys.{none_there}, specs.ListViews.{note_view, notes_view}, specs.Notes.{place_of_key}}
use Rattle.html_flow_lists.proofs.notes.Notes.set.Goals as goal

pub returns-else-place-len-clause-notes : goal.returns-else-place-len-clause-notes
returns-else-place-len-clause-notes c =
    let notes = notes_view c.args.self.now in
    let place = place_of_key (chars c.args.key.now) notes in
    let found : c.place_of_key-place.result ≡ place = cc in
    let beyond : length notes ≤ place
    = omega (arith, length-map c.args.self.now.notes.items note_view, found) in
    none_there place (pairs_view c.args.content.items) notes beyond
