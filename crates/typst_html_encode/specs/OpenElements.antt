-- The pure values of the elements that a walk has entered.
use Rattle.std.specs.Prelude.{◌≡◌, Bool, true, false, ◌&&◌, List, map, reverse, Option, Some, None}
use Rattle.html_dom_tree.specs.Tree.{NodeView, element_node}
use Rattle.html_dom_flat.specs.{Siblings.{head_view, siblings_view}, declared.siblings.Element.{Element}}
use Rattle.typst_html_encode.specs.{Layout.{due_after}, WriterWalk.{OpenElementView, is_element_entered, node_is_entered}}
use Rattle.typst_html_encode.specs.declared.open_elements.{OpenElement.{OpenElement}, OpenElements.{OpenElements}}
use Rattle.typst_html_encode.specs.declared.{place.Place.{Place}, write.Turn.{Turn}}

abbrev pub open_element_view : OpenElement → OpenElementView
open_element_view o = record {
  name = o.tag.now;
  pre_span = o.pre_span;
  margin = o.margin;
  due_after = o.due_after;
  after = siblings_view o.after;
}

-- the innermost first
abbrev pub open_elements_view : OpenElements → List OpenElementView
open_elements_view open_elements = reverse (map open_element_view open_elements.items.items)

-- the result is the node, if it is an element that the walk enters
abbrev pub Enters : NodeView → Option Element → Type 0
Enters n None = node_is_entered n ≡ false
Enters n (Some e) = (n ≡ element_node (head_view e) (siblings_view e.children))
    × (is_element_entered (head_view e) (siblings_view e.children) ≡ true)

-- what the walk does after a node of that place
pub record GoesOn (place : Place) (due : Bool) (n : NodeView) (turn : Turn) : Type 0 where
  pub entered : Enters n turn.entered
  pub due_after : turn.due_after ≡ (place.margin.pretty && due_after due n)
