-- Equality of tags, points and frames, decided by their views.
use Rattle.std.specs.Prelude.{ℕ, ℤ, List, Option}
use native.Mathlib.Decide.{ℕ_discrete}
use lib.IntN.{ℤ_discrete}
use mathlib.Core.List.{List-discrete}
use mathlib.Core.HLevel.{×_discrete}
use Rattle.std.proofs.Common.{ap}
use Rattle.html_names_core.specs.{Equal.{option_discrete, text_discrete, pairs_discrete}, Texts.{TextPair}}
use Rattle.html_dom_tree.specs.Frames.{PointView, FrameView, FrameView-discrete, FrameItemView, FrameItemView-discrete, HtmlFrameView}
use Rattle.html_dom_tree.specs.Tags.{TagView, TagView-discrete}

pub tag_discrete : Discrete TagView
tag_discrete =
    TagView-discrete ℕ_discrete (option_discrete text_discrete) (option_discrete ℕ_discrete)

point_discrete : Discrete PointView
point_discrete = ×_discrete ℤ_discrete ℤ_discrete

anchor_discrete : Discrete (PointView × List ℕ)
anchor_discrete = ×_discrete point_discrete text_discrete

pub frame_discrete : Discrete FrameView
frame_discrete =
    FrameView-discrete ℕ_discrete point_discrete tag_discrete (option_discrete ℕ_discrete)

pub frame_item_discrete : Discrete FrameItemView
frame_item_discrete =
    FrameItemView-discrete ℕ_discrete point_discrete tag_discrete (option_discrete ℕ_discrete)

-- a frame in a tree, as a tuple
abbrev Parts : Type 0
Parts = FrameView × (ℤ × (Option (List ℕ) × (List TextPair × (List (PointView × List ℕ) × ℕ))))

abbrev parts : HtmlFrameView → Parts
parts f = (f.inner, (f.text_size, (f.id, (f.css, (f.anchors, f.span)))))

abbrev of_parts : Parts → HtmlFrameView
of_parts p = record {
  inner = p.0;
  text_size = p.1.0;
  id = p.1.1.0;
  css = p.1.1.1.0;
  anchors = p.1.1.1.1.0;
  span = p.1.1.1.1.1;
}

parts_discrete : Discrete Parts
parts_discrete =
    ×_discrete frame_discrete (×_discrete ℤ_discrete (×_discrete (option_discrete text_discrete)
    (×_discrete pairs_discrete (×_discrete (List-discrete anchor_discrete) ℕ_discrete))))

pub html_frame_discrete : Discrete HtmlFrameView
html_frame_discrete f g = elim (parts_discrete (parts f) (parts g))
    [ yes same_parts ↦ yes (ap of_parts same_parts) | no other ↦ no (λ e. other (ap parts e)) ]
