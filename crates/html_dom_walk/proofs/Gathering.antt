-- What a loop over a walk gathers is what a recursion over the tree gathers.
use Rattle.std.proofs.Common.{◌≡◌, ℕ, suc, List, [], ◌∷◌, ◌++◌, refl, sym, ap, ◌∙◌, append_assoc}
use Rattle.html_dom_tree.specs.Tree.{tag_node, text_node, element_node, frame_node, NodesView, none, node}
use Rattle.html_dom_walk.specs.{Events.{Event, tag, text, frame, enter, leave, events_of}, Gathered.{gathered, nodes_found, nodes_gathered}}
use Rattle.html_dom_walk.specs.WalkLaws.{FoundIs, GatheredIs}

module _ {A : Type 0} where
  -- one part more in front
  in_front : (first second third fourth : List A) (whole : List A) →
      whole ≡ second ++ (third ++ fourth) → first ++ whole ≡ (first ++ (second ++ third)) ++ fourth
  in_front first second third fourth whole e =
      ap (λ l. first ++ l) (e ∙ sym (append_assoc second third fourth))
      ∙ sym (append_assoc first (second ++ third) fourth)

  pub gathered_is : GatheredIs A
  unfolding events_of nodes_gathered
  gathered_is f parent index none later = refl
  gathered_is f parent index (node (tag_node t) ns) later =
      in_front (f (parent ++ index ∷ [], tag t)) [] (nodes_gathered f parent (suc index) ns)
      (gathered f later) _ (gathered_is f parent (suc index) ns later)
  gathered_is f parent index (node (text_node s span) ns) later =
      in_front (f (parent ++ index ∷ [], text s span)) [] (nodes_gathered f parent (suc index) ns)
      (gathered f later) _ (gathered_is f parent (suc index) ns later)
  gathered_is f parent index (node (frame_node g) ns) later =
      in_front (f (parent ++ index ∷ [], frame g)) [] (nodes_gathered f parent (suc index) ns)
      (gathered f later) _ (gathered_is f parent (suc index) ns later)
  gathered_is f parent index (node (element_node h kids) ns) later =
      let path = parent ++ index ∷ [] in
      let rest = events_of parent (suc index) ns later in
      let others = nodes_gathered f parent (suc index) ns in
      in_front (f (path, enter h kids)) (nodes_gathered f path 0 kids) (f (path, leave) ++ others)
      (gathered f later) _
      (gathered_is f path 0 kids ((path, leave) ∷ rest)
      ∙ ap (λ l. nodes_gathered f path 0 kids ++ l)
      (in_front (f (path, leave)) [] others (gathered f later) _
      (gathered_is f parent (suc index) ns later)))

  -- without paths
  gathered_found : (f : Event → List A) (parent : List ℕ) (index : ℕ) (ns : NodesView) →
      nodes_gathered (λ e. f e.1) parent index ns ≡ nodes_found f ns
  unfolding nodes_gathered nodes_found
  gathered_found f parent index none = refl
  gathered_found f parent index (node (tag_node t) ns) =
      ap (λ l. f (tag t) ++ l) (gathered_found f parent (suc index) ns)
  gathered_found f parent index (node (text_node s span) ns) =
      ap (λ l. f (text s span) ++ l) (gathered_found f parent (suc index) ns)
  gathered_found f parent index (node (frame_node g) ns) =
      ap (λ l. f (frame g) ++ l) (gathered_found f parent (suc index) ns)
  gathered_found f parent index (node (element_node h kids) ns) =
      ap (λ l. f (enter h kids)
      ++ (l ++ (f leave ++ nodes_gathered (λ e. f e.1) parent (suc index) ns)))
      (gathered_found f (parent ++ index ∷ []) 0 kids)
      ∙ ap (λ l. f (enter h kids) ++ (nodes_found f kids ++ (f leave ++ l)))
      (gathered_found f parent (suc index) ns)

  pub found_is : FoundIs A
  found_is f parent index ns later =
      gathered_is (λ e. f e.1) parent index ns later
      ∙ ap (λ l. l ++ gathered (λ e. f e.1) later) (gathered_found f parent index ns)
