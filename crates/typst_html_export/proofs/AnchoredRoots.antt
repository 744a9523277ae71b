-- The tree that links lead into is one to which anchors were added.
use Rattle.std.proofs.Common.{ℕ, List, [], ◌∷◌, Option, None, Some}
use Rattle.html_dom_tree.specs.Tree.{TagView, Head, tag_node, text_node, element_node, frame_node, NodesView, none, node, ElementView}
use Rattle.html_anchors.specs.Anchors.{with_id, text_in_span, span_before, nodes_size, nodes_with_anchors, element_namings, element_with_anchors}
use Rattle.html_anchors.specs.{Events.{Targets}, Namings.{Naming}}
use Rattle.typst_html_spaces.proofs.{Changed.{unchanged}, Each.{Each, Each-drop}}
use Rattle.typst_html_spaces.specs.Anchored.{NewAttribute, new_id, anchor, nothing, given, anchors, Anchored, IsAny}
use Rattle.typst_html_spaces.specs.Changed.{at_end, at_tag, after_tag, at_text, around_text, at_element, at_frame}

-- a name that is made passes
abbrev pub Passing : (List ℕ → Type 0) → Option (List ℕ) → Type 0
Passing P None = Unit {0}
Passing P (Some n) = P n

abbrev pub MadePasses : (List ℕ → Type 0) → Naming → Type 0
MadePasses P c = Passing P c.made

all_pass : (P : List ℕ → Type 0) → ((id : List ℕ) → P id) → (cs : List Naming) →
    Each (MadePasses P) cs
all_pass P any [] = tt
all_pass P any (c ∷ cs) =
    (elim c.made as (Passing P) [ None ↦ tt | Some n ↦ any n ], all_pass P any cs)

module _ (P : NewAttribute → List ℕ → Type 0) where
  tag_anchored : (made : Option (List ℕ)) {t : TagView} {ns ms : NodesView} →
      Passing (P new_id) made → Anchored P ns ms →
      Anchored P (node (tag_node t) ns) (node (tag_node t) (span_before made ms))
  tag_anchored None p r = at_tag r
  tag_anchored (Some n) p r = after_tag (anchor n 0 p) r

  text_anchored : (made : Option (List ℕ)) {s : List ℕ} {span : ℕ} {ns ms : NodesView} →
      Passing (P new_id) made → Anchored P ns ms →
      Anchored P (node (text_node s span) ns) (node (text_in_span made s span) ms)
  text_anchored None p r = at_text r
  text_anchored (Some n) {span = span} p r = around_text (anchor n span p) r

  head_anchored : (made : Option (List ℕ)) {h : Head} {kids new ns ms : NodesView} →
      Passing (P new_id) made → Anchored P kids new → Anchored P ns ms →
      Anchored P (node (element_node h kids) ns) (node (element_node (with_id made h) new) ms)
  head_anchored None p q r = at_element nothing q r
  head_anchored (Some n) p q r = at_element (given new_id n p) q r

  pub nodes_are_anchored : (ns : NodesView) (cs : List Naming) → Each (MadePasses (P new_id)) cs →
      Anchored P ns (nodes_with_anchors cs ns)
  unfolding nodes_with_anchors
  nodes_are_anchored none cs e = at_end
  nodes_are_anchored (node n ns) [] e = unchanged (anchors P) (λ h. nothing) (node n ns)
  nodes_are_anchored (node (tag_node t) ns) (c ∷ cs) e =
      tag_anchored c.made e.0 (nodes_are_anchored ns cs e.1)
  nodes_are_anchored (node (text_node s span) ns) (c ∷ cs) e =
      text_anchored c.made e.0 (nodes_are_anchored ns cs e.1)
  nodes_are_anchored (node (element_node h kids) ns) (c ∷ cs) e =
      head_anchored c.made e.0 (nodes_are_anchored kids cs e.1) (nodes_are_anchored ns _
      (Each-drop (MadePasses (P new_id)) (nodes_size kids) cs e.1))
  nodes_are_anchored (node (frame_node f) ns) (c ∷ cs) e = at_frame (nodes_are_anchored ns cs e.1)

  pub root_anchored_by : ((id : List ℕ) → P new_id id) → (x : Targets) (e : ElementView) →
      Anchored P e.1 (element_with_anchors x e).1
  unfolding element_with_anchors
  root_anchored_by any x e =
      nodes_are_anchored e.1 _ (all_pass (P new_id) any (element_namings x e))

pub root_anchored : (x : Targets) (e : ElementView) →
    Anchored IsAny e.1 (element_with_anchors x e).1
root_anchored = root_anchored_by IsAny (λ id. tt)
