-- What is visible of a page up to each event of a walk over it.
use Rattle.std.specs.Prelude.{Bool, false, not, ◌&&◌, ◌||◌, List, [], ◌∷◌, if◌then◌else◌}
use Rattle.html_names_core.specs.Kinds.{is_line_break, is_replaced}
use Rattle.html_dom_tree.specs.Tree.{Head, NodesView}
use Rattle.html_dom_shown.specs.Collapsing.{object, break, has_border, preserves, text_atoms}
use Rattle.html_dom_walk.specs.Events.{Event, tag, text, frame, enter, leave}
use Rattle.html_page_text.specs.{Gathering.{Seen, border_atoms, nothing_seen, past_nodes, run, step}, Unseen.{is_unseen}}

-- what is visible so far, whether blanks are preserved, and of each open element, the innermost
-- first, whether blanks are preserved around it and whether a border ends it
pub record Progress : Type 0 where
  pub seen : Seen
  pub preserved : Bool
  pub opened : List (Bool × Bool)

abbrev pub no_progress : Progress
no_progress = record { seen = nothing_seen; preserved = false; opened = [] }

-- whether what is in an element is invisible
abbrev pub has_no_content : Head → Bool
has_no_content h = is_unseen h.name h.attrs || (is_line_break h.name || is_replaced h.name)

-- what is visible up to an element's content
abbrev pub started : Seen → Head → Seen
started s h =
    let bordered = run s (border_atoms (has_border h.name h.attrs)) in
    if is_unseen h.name h.attrs then s
    else (if is_line_break h.name then step s break
    else (if is_replaced h.name then step bordered (object h.name) else bordered))

-- whether a border stands behind an element's content
abbrev pub ends_in_border : Head → Bool
ends_in_border h = not (is_unseen h.name h.attrs || is_line_break h.name) && has_border h.name h.attrs

abbrev pub entered : Progress → Head → Progress
entered p h = record {
  seen = started p.seen h;
  preserved = p.preserved || preserves h.name h.attrs;
  opened = (p.preserved, ends_in_border h) ∷ p.opened;
}

abbrev left_to : Progress → List (Bool × Bool) → Progress
left_to p [] = p
left_to p (o ∷ os) =
    record { seen = run p.seen (border_atoms o.1); preserved = o.0; opened = os }

abbrev pub left : Progress → Progress
left p = left_to p p.opened

abbrev pub past_event : Progress → Event → Progress
past_event p (tag t) = p
past_event p (text s span) = record p { seen = run p.seen (text_atoms p.preserved s) }
past_event p (frame f) = p
past_event p (enter h kids) = entered p h
past_event p leave = left p

-- whether what is below the node of an event is skipped
abbrev pub is_skipped : Event → Bool
is_skipped (tag t) = false
is_skipped (text s span) = false
is_skipped (frame f) = false
is_skipped (enter h kids) = has_no_content h
is_skipped leave = false

-- the progress past nodes
abbrev pub progress_past : Progress → NodesView → Progress
progress_past p ns = record p { seen = past_nodes p.preserved p.seen ns }
