-- The anchors of a document: those of its root for the requested locations, by the recorded points.
use Rattle.std.specs.Prelude.{ℕ, List, Bool, Option, Some, None}
use Rattle.html_dom_tree.specs.Frames.{PointView}
use Rattle.html_dom_document.specs.{Documents.{DocumentView, document_root, with_root}, Introspectors.{IntrospectorView}}
use Rattle.html_dom_document.specs.Places.{PositionView}
use Rattle.html_anchors.specs.{Anchors.{element_with_anchors, anchor_of}, Events.{Targets}}

-- the point at which a location was recorded, if it was in a frame
abbrev pub recorded_point : Option PositionView → Option PointView
recorded_point None = None
recorded_point (Some position) = position.point

abbrev pub targets_in : IntrospectorView → (is_target : ℕ → Bool) → Targets
targets_in known is_target = record {
  is_target = is_target;
  points = λ location. recorded_point (known.position location);
}

abbrev pub document_targets : (is_target : ℕ → Bool) → DocumentView → Targets
document_targets is_target d = targets_in d.introspector is_target

-- the document whose root has anchors for these locations
abbrev pub document_with_new_anchors : (is_target : ℕ → Bool) → DocumentView → DocumentView
document_with_new_anchors is_target d = record d {
  output = with_root d.output (element_with_anchors (document_targets is_target d) (document_root d));
}

-- the anchor that a location gets, if it gets one
abbrev pub document_anchor : (is_target : ℕ → Bool) → DocumentView → ℕ → Option (List ℕ)
document_anchor is_target d = anchor_of (document_targets is_target d) (document_root d)
