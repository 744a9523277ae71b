-- Frames that are already laid out, as pure values.
use Rattle.std.specs.Prelude.{ℕ, ℤ, List, [], Option, None}
use Rattle.html_names_core.specs.Texts.{TextPair}
use Rattle.html_dom_tree.specs.Tags.{TagView}

-- the distances of a position to the right and down, in millionths of a typographic point
abbrev pub PointView : Type 0
PointView = ℤ × ℤ

mutual
  pub data FrameView : Type 0 where
    frame : (picture : ℕ) (items : FrameItemsView) → FrameView
    deriving Discrete as FrameView-discrete

  pub data FrameItemsView : Type 0 where
    no_frame_items : FrameItemsView
    placed_item : (position : PointView) (content : FrameItemView) (rest : FrameItemsView)
        → FrameItemsView
    deriving Discrete as FrameItemsView-discrete

  pub data FrameItemView : Type 0 where
    tag_item : TagView → FrameItemView
    group_item : FrameView → FrameItemView
    link_item : Option ℕ → FrameItemView
    other_item : FrameItemView
    deriving Discrete as FrameItemView-discrete

-- a frame in a tree
pub record HtmlFrameView : Type 0 where
  pub inner : FrameView
  pub text_size : ℤ
  pub id : Option (List ℕ)
  pub css : List TextPair
  pub anchors : List (PointView × List ℕ)
  pub span : ℕ

-- a frame in a tree, without an `id`, css or anchors
abbrev pub new_html_frame : FrameView → (text_size : ℤ) → (span : ℕ) → HtmlFrameView
new_html_frame inner text_size span = record {
  inner = inner;
  text_size = text_size;
  id = None;
  css = [];
  anchors = [];
  span = span;
}
