-- What a loop over a walk finds of a tree's names.
use Rattle.std.proofs.Common.{◌≡◌, ℕ, List, [], ◌++◌, refl, ap, ◌∙◌, append-nil}
use Rattle.html_dom_tree.specs.{Frames.{HtmlFrameView}, Tree.{Head, tag_node, text_node, element_node, frame_node, NodesView, none, node}}
use Rattle.html_dom_walk.proofs.Gathering.{found_is}
use Rattle.html_dom_walk.specs.{Events.{Event, tag, text, frame, enter, leave, events_of}, Gathered.{gathered, nodes_found}}
use Rattle.html_links.specs.TreeNames.{Name, gathered_names}

module _ (of_element : Head → List Name) (of_frame : HtmlFrameView → List Name) where
  abbrev pub event_names : Event → List Name
  event_names (tag t) = []
  event_names (text s span) = []
  event_names (frame f) = of_frame f
  event_names (enter h kids) = of_element h
  event_names leave = []

  nodes_found_is : (ns : NodesView) →
      nodes_found event_names ns ≡ gathered_names of_element of_frame ns
  unfolding nodes_found gathered_names
  nodes_found_is none = refl
  nodes_found_is (node (tag_node t) ns) = nodes_found_is ns
  nodes_found_is (node (text_node s span) ns) = nodes_found_is ns
  nodes_found_is (node (frame_node f) ns) = ap (λ l. of_frame f ++ l) (nodes_found_is ns)
  nodes_found_is (node (element_node h kids) ns) =
      rw (nodes_found_is kids, nodes_found_is ns) refl

  pub names_found : (parent : List ℕ) (index : ℕ) (ns : NodesView) →
      gathered (λ e. event_names e.1) (events_of parent index ns [])
      ≡ gathered_names of_element of_frame ns
  names_found parent index ns =
      found_is event_names parent index ns []
      ∙ (append-nil (nodes_found event_names ns) ∙ nodes_found_is ns)
