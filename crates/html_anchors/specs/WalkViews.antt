-- The state of the walk, the targets and the points, as they are stored.
use Rattle.html_dom_document.specs.Introspectors.{has_location, introspector_view}
use Rattle.html_anchors.specs.{AnchorWalk.{WalkState}, Events.{Targets}, LinkAnchors.{targets_in}}
use Rattle.html_anchors.specs.{LocationMaps.{labels_in, names_in, locations_in}, declared.sought.Sought.{Sought}}
use Rattle.html_anchors.specs.declared.state.AnchorState.{AnchorState}
use Rattle.html_links.specs.UsedNames.{used_in}

abbrev pub state_view : AnchorState → WalkState
state_view w = record {
  waiting = locations_in w.waiting.items;
  labels = labels_in w.labels;
  used = used_in w.names.used;
  answers = names_in w.answers;
}

abbrev pub targets_view : Sought → Targets
targets_view s = targets_in (introspector_view s.known.now) (has_location s.targets.now)
