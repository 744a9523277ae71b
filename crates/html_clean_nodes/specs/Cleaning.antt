-- The same walk, event by event: the nodes that were made, and those around them.
use Rattle.std.specs.Prelude.{◌≡◌, Bool, true, false, ◌&&◌, ◌||◌, List, [], ◌∷◌, if◌then◌else◌, Option, Some, None, map, reverse}
use Rattle.html_names_core.specs.Kinds.{is_void}
use Rattle.html_dom_tree.specs.{Tree.{Head, element_node, NodesView, none, with_last}, Views.{element_view, head_of, nodes_view}}
use Rattle.html_dom_walk.specs.Events.{Event, tag, text, frame, enter, leave}
use Rattle.html_page_nesting.specs.{Kept.{in_body}, Walks.{surroundings_in}, declared.surroundings.Surroundings.{Surroundings}}
use Rattle.html_clean_values.specs.Replaced.{replaced}
use Rattle.html_clean_policy.specs.Policies.{PolicyView, is_dropped}
use Rattle.html_clean_nodes.specs.Cleaned.{kept_head, nodes_cleaned, parted, parts, stays, text_cleaned}
use Rattle.html_clean_nodes.specs.declared.cleaner.{Cleaner.{Cleaner}, Entry.{Entry}, Stays.{Stays}}
use Rattle.html_clean_nodes.specs.declared.cleaner.Entry.TheVariants as entry

-- an element that a walk has entered: one that stays, with the nodes before it and their
-- surroundings; one that gives place to its children; and one that goes with all that is in it
pub data EntryView : Type 0 where
  kept : (head : Head) (made : NodesView) (around : Surroundings) → EntryView
  gives_place : (parts : Bool) → EntryView
  left_out : EntryView

pub record CleaningView : Type 0 where
  pub around : Surroundings
  -- the nodes that were made in the innermost element that stays
  pub made : NodesView
  -- the elements that were entered and not left, the innermost first
  pub opened : List EntryView

-- before the nodes of a fragment
abbrev pub no_cleaning : CleaningView
no_cleaning = record { around = in_body; made = none; opened = [] }

-- in an element that stays, with these surroundings in it
abbrev pub kept_entered : CleaningView → Head → (inside : Surroundings) → CleaningView
kept_entered s h inside =
    record { around = inside; made = none; opened = kept h s.made s.around ∷ s.opened }

-- in an element that gives place to its children
abbrev pub place_given : CleaningView → (apart : Bool) → CleaningView
place_given s apart = record s { made = parted apart s.made; opened = gives_place apart ∷ s.opened }

abbrev pub entered : PolicyView → CleaningView → Head → CleaningView
entered p s h = if is_dropped h.name then record s { opened = left_out ∷ s.opened }
    else (if stays p s.around h
    then kept_entered s (kept_head p h) (surroundings_in (kept_head p h) s.around)
    else place_given s (parts h))

-- whether what is in an element is left out
abbrev pub is_skipped : PolicyView → CleaningView → Head → Bool
is_skipped p s h = is_dropped h.name || (stays p s.around h && is_void h.name)

-- behind an element that stays, with the nodes and the surroundings before it
abbrev pub kept_left : CleaningView → Head → (made : NodesView) → (around : Surroundings) → CleaningView
kept_left s h made around =
    record s { around = around; made = with_last made (element_node h s.made) }

abbrev pub left_to : CleaningView → List EntryView → CleaningView
left_to s [] = s
left_to s (kept h made around ∷ outer) = kept_left (record s { opened = outer }) h made around
left_to s (gives_place apart ∷ outer) = record s { made = parted apart s.made; opened = outer }
left_to s (left_out ∷ outer) = record s { opened = outer }

abbrev pub left : CleaningView → CleaningView
left s = left_to s s.opened

abbrev pub past_event : PolicyView → CleaningView → Event → CleaningView
past_event p s (tag t) = s
past_event p s (text x span) = record s { made = text_cleaned s.around s.made (replaced x) span }
past_event p s (frame f) = s
past_event p s (enter h kids) = entered p s h
past_event p s leave = left s

-- whether what is below the node of an event is left out
abbrev pub skips : PolicyView → CleaningView → Event → Bool
skips p s (tag t) = false
skips p s (text x span) = false
skips p s (frame f) = false
skips p s (enter h kids) = is_skipped p s h
skips p s leave = false

abbrev pub entry_view : Entry → EntryView
entry_view (entry.Kept e made around) = kept (head_of e) (nodes_view made.items) around
entry_view (entry.GivesPlace apart) = gives_place apart
entry_view entry.LeftOut = left_out

-- behind nodes
abbrev pub cleaned_behind : PolicyView → CleaningView → NodesView → CleaningView
cleaned_behind p s ns = record s { made = nodes_cleaned p s.around s.made ns }

-- an element as it stays, with the surroundings of its content, if it does
abbrev pub Stay : PolicyView → (around : Surroundings) → Head → Option Stays → Type 0
Stay p around h None = stays p around h ≡ false
Stay p around h (Some it) = (stays p around h ≡ true)
    × (element_view it.element ≡ (kept_head p h, none))
    × (it.inside ≡ surroundings_in (kept_head p h) around)

abbrev pub cleaning_view : Cleaner → CleaningView
cleaning_view c = record {
  around = c.around;
  made = nodes_view c.made.items;
  opened = reverse (map entry_view c.opened.items);
}
