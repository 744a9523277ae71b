-- The walk finds what the definition says.
use Rattle.std.proofs.Common.{◌≡◌, ℕ, suc, ◌+◌, Bool, true, false, List, [], ◌∷◌, ◌++◌, refl, ap, sym, ◌∙◌, add-one, true≢false}
use Rattle.std.proofs.lemmas.{List.{append-nil}, Result.{IfOk-weaker}}
use Rattle.std.specs.Prelude.{if◌then◌else◌, IfOk, IsOk, OnOk, Result, Ok, Err, Some}
use Rattle.html_dom_tree.{proofs.Taking.{both_taken, same_taken}, specs.Taking.{Takes}}
use Rattle.html_dom_tree.specs.Tree.{Head, TagView, NodeView, tag_node, text_node, element_node, frame_node, NodesView, none, node, ElementView}
use Rattle.html_dom_tree.specs.{Frames.{HtmlFrameView}, Views.{node_view, nodes_view}, declared.node.HtmlNode.{HtmlNode}}
use Rattle.html_page_nesting.specs.Ancestors.{Ancestor, ancestor}
use Rattle.html_page_nesting.specs.Misnested.{Finding, found, misnested_nodes, node_misnested, nodes_misnested}
use Rattle.html_page_nesting.specs.{NestingRules.{element_misnesting, frame_misnesting, is_too_deep, root_misnesting, text_misnesting}, Surroundings.{surroundings_of}}
use Rattle.html_page_nesting.specs.Walks.{node_walk, nodes_walk, surroundings_in}
use Rattle.html_page_nesting.specs.declared.misnesting.Misnesting.TheVariants as rule
use Rattle.html_page_nesting.specs.declared.surroundings.Surroundings.{Surroundings}

-- a walk that ended has taken all
pub walk_ended : {S Made U E F : Type 0} (made : S → List Finding → Made) (first last : S)
    (fs : List Finding) (passed : Result U E) (r : Result S F) →
    OnOk passed (Takes (made first) (made last) fs) →
    IfOk r (λ given. IsOk passed × (given ≡ last)) → IfOk r (λ given. made given [] ≡ made first fs)
walk_ended made first last fs (Ok u) r taken ended = IfOk-weaker r _ _
    (λ given is. ap (λ s. made s []) is.1 ∙ (taken [] ∙ ap (made first) (append-nil fs))) ended
walk_ended made first last fs (Err e) r taken ended =
    IfOk-weaker r _ _ (λ given is. absurd (true≢false (sym is.0))) ended

-- nodes that are no elements
module _ (path : List ℕ) (around : Surroundings) where
  pub tag_walked : (t : TagView) → node_walk path around (tag_node t) ≡ []
  unfolding node_walk
  tag_walked t = refl

  pub text_walked : (s : List ℕ) (span : ℕ) → node_walk path around (text_node s span)
      ≡ found path span (text_misnesting s around)
  unfolding node_walk
  text_walked s span = refl

  pub frame_walked : (f : HtmlFrameView) → node_walk path around (frame_node f)
      ≡ found path f.span (frame_misnesting around)
  unfolding node_walk
  frame_walked f = refl

-- what an element is to its children follows from what its own ancestors are to it
pub inside_is : (h : Head) (above : List Ancestor) →
    surroundings_in h (surroundings_of above) ≡ surroundings_of (ancestor h above ∷ above)
inside_is h above = refl

mutual
  unfolding node_walk nodes_walk node_misnested nodes_misnested

  pub node_found : (path : List ℕ) (above : List Ancestor) (n : NodeView) →
      node_walk path (surroundings_of above) n ≡ node_misnested path above n
  node_found path above (tag_node t) = refl
  node_found path above (text_node s span) = refl
  node_found path above (element_node h kids) =
      ap (λ fs. if is_too_deep (surroundings_of above) then found path h.span (Some rule.TooDeep)
      else found path h.span (element_misnesting h kids (surroundings_of above)) ++ fs)
      (nodes_found path 0 (ancestor h above ∷ above) kids)
  node_found path above (frame_node f) = refl

  pub nodes_found : (path : List ℕ) (i : ℕ) (above : List Ancestor) (ns : NodesView) →
      nodes_walk path i (surroundings_of above) ns ≡ nodes_misnested path i above ns
  nodes_found path i above none = refl
  nodes_found path i above (node n ns) =
      ap (λ fs. fs ++ nodes_walk path (suc i) (surroundings_of above) ns)
      (node_found (path ++ i ∷ []) above n)
      ∙ ap (λ fs. node_misnested (path ++ i ∷ []) above n ++ fs) (nodes_found path (suc i) above ns)

-- nodes are the first, and those behind it
pub walked_in_turn : (around : Surroundings) (path : List ℕ) (i : ℕ) (ns later : List HtmlNode)
    (x : HtmlNode) → ns ≡ x ∷ later → nodes_walk path i around (nodes_view ns)
    ≡ node_walk (path ++ i ∷ []) around (node_view x)
    ++ nodes_walk path (i + 1) around (nodes_view later)
unfolding nodes_walk
walked_in_turn around path i ns later x is =
    ap (λ xs. nodes_walk path i around (nodes_view xs)) is
    ∙ ap (λ k. node_walk (path ++ i ∷ []) around (node_view x)
    ++ nodes_walk path k around (nodes_view later)) (sym (add-one i))

-- where there are none, none is found
pub none_walked : (around : Surroundings) (path : List ℕ) (i : ℕ) (ns : List HtmlNode) →
    ns ≡ [] → nodes_walk path i around (nodes_view ns) ≡ []
unfolding nodes_walk
none_walked around path i ns is = ap (λ xs. nodes_walk path i around (nodes_view xs)) is

-- the findings of a whole tree: those of the root, and those of its children
pub tree_taken : {Made : Type 0} (e : ElementView) (old between new : List Finding → Made)
    (inside : Surroundings) (kids : NodesView) →
    Takes old between (found [] e.0.span (root_misnesting e (surroundings_of []))) →
    inside ≡ surroundings_in e.0 (surroundings_of []) → kids ≡ e.1 →
    Takes between new (nodes_walk [] 0 inside kids) → Takes old new (misnested_nodes e)
tree_taken e old between new inside kids own inside_is' kids_is others =
    let above = ancestor e.0 [] ∷ [] in
    let here = found [] e.0.span (root_misnesting e (surroundings_of [])) in
    same_taken old new (here ++ nodes_walk [] 0 inside kids) (misnested_nodes e)
    (both_taken old new between here (nodes_walk [] 0 inside kids) own others)
    (ap (λ s. here ++ nodes_walk [] 0 s kids) (inside_is' ∙ inside_is e.0 [])
    ∙ (ap (λ ns. here ++ nodes_walk [] 0 (surroundings_of above) ns) kids_is
    ∙ ap (λ fs. here ++ fs) (nodes_found [] 0 above e.1)))

module _ (path : List ℕ) (around : Surroundings) (h : Head) (kids : NodesView) where
  abbrev of_element : (too_deep : Bool) → List Finding
  of_element too_deep = if too_deep then found path h.span (Some rule.TooDeep)
      else found path h.span (element_misnesting h kids around)
      ++ nodes_walk path 0 (surroundings_in h around) kids

  -- an element that stands too deep is found alone
  pub too_deep_found : true ≡ is_too_deep around →
      found path h.span (Some rule.TooDeep) ≡ node_walk path around (element_node h kids)
  unfolding node_walk
  too_deep_found deep = ap of_element deep

  -- another with what is in it
  pub element_taken : {Made : Type 0} (old between new : List Finding → Made)
      (inside : Surroundings) → false ≡ is_too_deep around →
      Takes old between (found path h.span (element_misnesting h kids around)) →
      inside ≡ surroundings_in h around → Takes between new (nodes_walk path 0 inside kids) →
      Takes old new (node_walk path around (element_node h kids))
  unfolding node_walk
  element_taken old between new inside within own inside_is' others =
      let here = found path h.span (element_misnesting h kids around) in
      same_taken old new (here ++ nodes_walk path 0 inside kids)
      (node_walk path around (element_node h kids))
      (both_taken old new between here (nodes_walk path 0 inside kids) own others)
      (ap (λ s. here ++ nodes_walk path 0 s kids) inside_is' ∙ ap of_element within)
