use Rattle.std.proofs.Common.{◌≡◌, chars, map, take}
use Rattle.html_page_read.specs.PageAnswers.{placed}
use Rattle.html_page_read.proofs.read.notes_at.Given as goal

abbrev pub invariant-loop-note : goal.invariant-loop-note
invariant-loop-note l =
    l.first.items ≡ map (placed (chars l.text)) (take l.note-index l.fn.notes.first.items)
