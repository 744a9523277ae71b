-- The texts at a visit of a walk, and what is left after it.
use Rattle.std.specs.Prelude.{ℕ, false, if◌then◌else◌, List, []}
use Rattle.html_dom_walk.specs.Events.{Event, frame, enter, from_end}
use Rattle.html_links.specs.InDocument.{keeps}
use Rattle.html_page_findings.specs.PlacedTexts.{Placed, TextKind, head_texts, placed_at}

abbrev pub event_placed : TextKind → (path : List ℕ) → Event → List Placed
event_placed kind path (enter h kids) = placed_at path (head_texts kind h)
event_placed kind path (frame f) = placed_at path (kind.framed f)
event_placed kind path e = []

-- the events after that one and later ones, but for those of what is not in the document
abbrev pub left_after : Event → (later : List (List ℕ × Event)) → List (List ℕ × Event)
left_after (enter h kids) later = if keeps false h.name then later else from_end 0 later
left_after e later = later
