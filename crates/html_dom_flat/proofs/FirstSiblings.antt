-- The first of some siblings in a flat list, and those after it.
use Rattle.std.proofs.Common.{◌≡◌, ℕ, ◌+◌, ◌-◌, ◌<◌, ◌≤◌, ◌&&◌, true, List, [], ◌∷◌, ◌++◌, take, drop, length, refl, sym, ap, ◌∙◌, arith, add-zero}
use Rattle.std.proofs.Math.Seq.{take-append_seam, drop-append_seam}
use Rattle.std.proofs.lemmas.{Bool.{and_parts}, List.{take-map, drop-map, length-append, length-map}}
use Rattle.html_names_table.specs.NameTables.{NamesView}
use Rattle.html_dom_tree.specs.Tree.{NodeView, tag_node, text_node, element_node, frame_node, NodesView, none, node}
use Rattle.html_dom_flat.proofs.Flats.{count_some, length_all, spelled_flat}
use Rattle.html_dom_flat.specs.Flat.{FlatNodeView, flat_tag, flat_text, flat_frame, flat_element, nodes_count, nodes_flat, spelled_nodes, IsSpelling, past_of}
use Rattle.html_dom_flat.specs.{FlatViews.{flat_node_view, flat_nodes_view, is_node_given, are_given}, Siblings.{node_with}}
use Rattle.html_dom_flat.specs.declared.flat_node.FlatNode.{FlatNode}

-- there are fewer nodes after the first
pub fewer_after : {all ns : NodesView} {n : NodeView} → all ≡ node n ns →
    nodes_count ns < nodes_count all
unfolding nodes_count
fewer_after {all} {ns} {n} is = rw is (omega (arith, count_some n))

-- a list that begins with a node: its children stand before its end, and its siblings from there on
record Parts (first : ℕ) (f : FlatNodeView) (fs : List FlatNodeView) (ns : NodesView) : Type 0
  where
    children : NodesView
    others : NodesView
    is : ns ≡ node (node_with f children) others
    past : past_of (first + 1) f ≡ first + 1 + nodes_count children
    list : fs ≡ nodes_flat (first + 1) children ++ nodes_flat (past_of (first + 1) f) others

parts_of : (first : ℕ) (f : FlatNodeView) (fs : List FlatNodeView) (ns : NodesView) →
    nodes_flat first ns ≡ f ∷ fs → Parts first f fs ns
unfolding nodes_flat nodes_count
parts_of first f fs none e = cc
parts_of first f fs (node (tag_node t) ns) e =
    let is : f ≡ flat_tag t = cc in
    let past = sym (add-zero (first + 1)) in
    rw is (record { children = none; others = ns; is = refl; past = past; list = cc })
parts_of first f fs (node (text_node s span) ns) e =
    let is : f ≡ flat_text s span = cc in
    let past = sym (add-zero (first + 1)) in
    rw is (record { children = none; others = ns; is = refl; past = past; list = cc })
parts_of first f fs (node (frame_node b) ns) e =
    let is : f ≡ flat_frame b = cc in
    let past = sym (add-zero (first + 1)) in
    rw is (record { children = none; others = ns; is = refl; past = past; list = cc })
parts_of first f fs (node (element_node h inside) ns) e =
    let is : f ≡ flat_element h (first + 1 + nodes_count inside) = cc in
    let same : first + (1 + nodes_count inside) ≡ first + 1 + nodes_count inside = omega arith in
    let list : nodes_flat (first + 1) inside
    ++ nodes_flat (first + (1 + nodes_count inside)) ns ≡ fs = cc in
    rw is (record {
      children = inside;
      others = ns;
      is = refl;
      past = refl;
      list = rw (← same) (sym list);
    })

pub none_spelled : (names : NamesView) (first : ℕ) (nodes : List FlatNode) → length nodes ≡ 0 →
    spelled_nodes first (flat_nodes_view names nodes) ≡ none
unfolding spelled_nodes
none_spelled names first [] e = refl
none_spelled names first (n ∷ ns) e = absurd (omega (arith, e))

-- the same over the nodes of the program, and the index after the first of them
module _ (names : NamesView) (first : ℕ) {past : ℕ} {nodes rest : List FlatNode} {flat : FlatNode}
    (is : nodes ≡ flat ∷ rest) (spells : IsSpelling first (flat_nodes_view names nodes))
    (to : past ≡ past_of (first + 1) (flat_node_view names flat)) where
  abbrev f : FlatNodeView
  f = flat_node_view names flat

  abbrev count : ℕ
  count = past - (first + 1)

  parts : Parts first f (flat_nodes_view names rest)
      (spelled_nodes first (flat_nodes_view names nodes))
  parts = parts_of first f (flat_nodes_view names rest) _
      (spells ∙ ap (flat_nodes_view names) is)

  abbrev inside : List FlatNodeView
  inside = nodes_flat (first + 1) parts.children

  abbrev after : List FlatNodeView
  after = nodes_flat past parts.others

  list_is : flat_nodes_view names rest ≡ inside ++ after
  list_is = parts.list ∙ ap (λ p. inside ++ nodes_flat p parts.others) (sym to)

  pub is_later : first + 1 ≤ past
  is_later = omega (arith, to, parts.past)

  count_is : count ≡ length inside
  count_is = omega (arith, to, parts.past, length_all (first + 1) parts.children)

  pub is_within : count ≤ length rest
  is_within =
      let whole : length rest ≡ length inside + length after
      = sym (length-map rest (flat_node_view names))
      ∙ (ap length list_is ∙ length-append inside after) in
      omega (arith, count_is, whole)

  inside_is : flat_nodes_view names (take count rest) ≡ inside
  inside_is = sym (take-map (flat_node_view names) count rest)
      ∙ rw (count_is, list_is) (take-append_seam inside after)

  after_is : flat_nodes_view names (drop count rest) ≡ after
  after_is = sym (drop-map (flat_node_view names) count rest)
      ∙ rw (count_is, list_is) (drop-append_seam inside after)

  pub inside_spells : {part : List FlatNode} → part ≡ take count rest →
      IsSpelling (first + 1) (flat_nodes_view names part)
  inside_spells taken =
      rw (taken, inside_is) (ap (nodes_flat (first + 1)) (spelled_flat (first + 1) parts.children))

  pub after_spells : {part : List FlatNode} → part ≡ drop count rest →
      IsSpelling past (flat_nodes_view names part)
  after_spells dropped =
      rw (dropped, after_is) (ap (nodes_flat past) (spelled_flat past parts.others))

  pub splits : {front back : List FlatNode} → front ≡ take count rest → back ≡ drop count rest →
      spelled_nodes first (flat_nodes_view names nodes)
      ≡ node (node_with f (spelled_nodes (first + 1) (flat_nodes_view names front)))
      (spelled_nodes past (flat_nodes_view names back))
  splits taken dropped =
      rw (
        taken,
        dropped,
        inside_is,
        after_is,
        spelled_flat (first + 1) parts.children,
        spelled_flat past parts.others,
      ) parts.is

-- numbers that the table has given, of each part
module _ (names : NamesView) {nodes rest : List FlatNode} {flat : FlatNode}
    (is : nodes ≡ flat ∷ rest) (given : are_given names nodes ≡ true) where
  parts_given : (is_node_given names flat && are_given names rest) ≡ true
  parts_given = ap (are_given names) (sym is) ∙ given

  pub first_given : is_node_given names flat ≡ true
  first_given = (and_parts _ _ parts_given).0

  pub rest_given : are_given names rest ≡ true
  rest_given = (and_parts _ _ parts_given).1
