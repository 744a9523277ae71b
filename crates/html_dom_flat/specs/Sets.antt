-- Equal nodes of a list are equal in one way.
use Rattle.std.proofs.Props.{props}
use mathlib.Core.HLevel.{hedberg}
use Rattle.html_dom_tree.specs.{FrameEqual.{tag_discrete, html_frame_discrete}, Frames.{HtmlFrameView}, Tree.{TagView, Head}}
use Rattle.html_dom_flat.specs.Flat.{FlatNodeView, FlatNodeView-set}

tag_is_set : IsSet TagView
tag_is_set = hedberg tag_discrete

html_frame_is_set : IsSet HtmlFrameView
html_frame_is_set = hedberg html_frame_discrete

head_is_set : IsSet Head
head_is_set = hlevel props

pub flat_node_is_set : IsSet FlatNodeView
flat_node_is_set =
    FlatNodeView-set tag_is_set (hlevel props) (hlevel props) html_frame_is_set head_is_set
