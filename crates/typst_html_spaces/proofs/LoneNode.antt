-- What holds of a list of nodes of which one is left when tags at both ends are cut off.
use Rattle.std.proofs.Common.{◌≡◌, ℕ, Bool, true, false, cond, List, [], ◌∷◌, map, Option, None, Some, inl, inr, refl}
use Rattle.std.proofs.lemmas.Bool.{cases_Bool, false≢true}
use Rattle.html_dom_tree.specs.Tree.{TagView, NodeView, tag_node, text_node, element_node, frame_node, NodesView, none, node}
use Rattle.html_flow_convert.specs.LoneNode.{node_list, are_tags, lone_node, DisplayChangeView, node_with_display, block_change, changed_or_in, block_change_of, block_head, block_nodes}

-- what holds past a tag, if it holds of what comes after it
module _ (P : NodesView → Type 0)
    (past : (t : TagView) (ns : NodesView) → P ns → P (node (tag_node t) ns)) where
  pub of_tags : P none → (ns : NodesView) → are_tags ns ≡ true → P ns
  of_tags start none e = start
  of_tags start (node (tag_node t) ns) e = past t ns (of_tags start ns e)
  of_tags start (node n ns) e = absurd (false≢true e)

  module _ (n : NodeView) (here : (ns : NodesView) → are_tags ns ≡ true → P (node n ns)) where
    of_first : (m : NodeView) (ns : NodesView) → cond (are_tags ns) (Some m) None ≡ Some n →
        P (node m ns)
    of_first m ns e = elim (cases_Bool (are_tags ns)) [
      | inl t ↦
          let one : Some m ≡ Some n = rw t at e in
          let is : m ≡ n = cc in
          rw is (here ns t)
      | inr t ↦ let f : None ≡ Some n = rw t at e in cc
    ]

    no_text : (b : Bool) {A : Type 0} → cond b None None ≡ Some n → A
    no_text true e = cc
    no_text false e = cc

    pub of_lone : (ns : NodesView) → lone_node ns ≡ Some n → P ns
    unfolding lone_node
    of_lone none e = cc
    of_lone (node (tag_node t) ns) e = past t ns (of_lone ns e)
    of_lone (node (text_node s span) ns) e = no_text (are_tags ns) e
    of_lone (node (element_node h kids) ns) e = of_first (element_node h kids) ns e
    of_lone (node (frame_node f) ns) e = of_first (frame_node f) ns e

-- what holds of the nodes of a block: an element around them, or a lone node that is changed
pub of_block : (P : List NodeView → Type 0) (span : ℕ) (ns : NodesView) →
    P (element_node (block_head span) ns ∷ []) →
    ((n : NodeView) (change : DisplayChangeView) → lone_node ns ≡ Some n →
    block_change n ≡ Some change → P (map (node_with_display change) (node_list ns))) →
    P (block_nodes span ns)
of_block P span ns around alone = by (lone_node ns) (block_change_of (lone_node ns)) refl refl
  where
    by : (o : Option NodeView) (c : Option DisplayChangeView) → lone_node ns ≡ o →
        block_change_of o ≡ c → P (changed_or_in (block_head span) c ns)
    by o None e f = around
    by None (Some change) e f = cc
    by (Some n) (Some change) e f = alone n change e f
