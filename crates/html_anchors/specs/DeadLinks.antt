-- Dead links as pure values, and those that a walk comes to.
use Rattle.std.specs.Prelude.{ℕ, List, [], map, Option, None}
use Rattle.html_dom_walk.specs.Events.{Event, tag, text, frame, enter, leave}
use Rattle.html_anchors.specs.{Links.{DeadLinkView, Hrefs, dead_link, open_dest, tag_dest}, declared.dead.DeadLink.{DeadLink}}

-- the span and the destination of a dead link
abbrev pub dead_link_view : DeadLink → DeadLinkView
dead_link_view link = (link.span.0, link.dest.0)

abbrev pub dead_links_view : List DeadLink → List DeadLinkView
dead_links_view = map dead_link_view

-- the destination that counts behind an event, given the one before it
abbrev pub event_dest : Event → Option ℕ → Option ℕ
event_dest (tag t) dest = tag_dest t dest
event_dest (text content span) dest = None
event_dest (frame f) dest = None
event_dest (enter h kids) dest = None
event_dest leave dest = None

-- the dead link at an event, if there is one
abbrev pub event_dead_links : Hrefs → Option ℕ → Event → List DeadLinkView
event_dead_links hrefs dest (tag t) = []
event_dead_links hrefs dest (text content span) = []
event_dead_links hrefs dest (frame f) = []
event_dead_links hrefs dest (enter h kids) = dead_link hrefs (open_dest h dest) h.span
event_dead_links hrefs dest leave = []
