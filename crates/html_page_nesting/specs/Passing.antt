-- The same findings, event by event: what is found at each, and the surroundings behind it.
use Rattle.std.specs.Prelude.{ℕ, Bool, false, List, [], ◌∷◌, if◌then◌else◌, reverse, Some}
use Rattle.html_dom_tree.specs.Tree.{Head}
use Rattle.html_dom_walk.specs.Events.{Event, tag, text, frame, enter, leave}
use Rattle.html_page_nesting.specs.{Misnested.{Finding, found}, Walks.{surroundings_in}}
use Rattle.html_page_nesting.specs.NestingRules.{element_misnesting, frame_misnesting, is_too_deep, text_misnesting}
use Rattle.html_page_nesting.specs.declared.misnesting.Misnesting.TheVariants as rule
use Rattle.html_page_nesting.specs.declared.{surroundings.Surroundings.{Surroundings}, walk.Opened.{Opened}}

-- the surroundings of the nodes that a walk is among, and those of each open element, the innermost
-- first
pub record OpenedView : Type 0 where
  pub around : Surroundings
  pub outer : List Surroundings

abbrev pub opened_view : Opened → OpenedView
opened_view o = record { around = o.around; outer = reverse o.outer.items }

-- in an element; an element that is too deep is left at once
abbrev pub entered : OpenedView → Head → OpenedView
entered o h = record {
  around = if is_too_deep o.around then o.around else surroundings_in h o.around;
  outer = o.around ∷ o.outer;
}

abbrev left_to : OpenedView → List Surroundings → OpenedView
left_to o [] = o
left_to o (around ∷ outer) = record { around = around; outer = outer }

abbrev pub left : OpenedView → OpenedView
left o = left_to o o.outer

abbrev pub opened_past : OpenedView → Event → OpenedView
opened_past o (tag t) = o
opened_past o (text s span) = o
opened_past o (frame f) = o
opened_past o (enter h kids) = entered o h
opened_past o leave = left o

abbrev pub event_found : Surroundings → (path : List ℕ) → Event → List Finding
event_found around path (tag t) = []
event_found around path (text s span) = found path span (text_misnesting s around)
event_found around path (frame f) = found path f.span (frame_misnesting around)
event_found around path (enter h kids) = if is_too_deep around
    then found path h.span (Some rule.TooDeep)
    else found path h.span (element_misnesting h kids around)
event_found around path leave = []

-- whether what is below the node of an event is skipped
abbrev pub is_skipped : Surroundings → Event → Bool
is_skipped around (tag t) = false
is_skipped around (text s span) = false
is_skipped around (frame f) = false
is_skipped around (enter h kids) = is_too_deep around
is_skipped around leave = false
