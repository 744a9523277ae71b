-- An element that was opened, filled and closed.
use Rattle.std.proofs.Common.{◌≡◌, ℕ, zero, suc, ◌+◌, ◌<◌, true, List, [], ◌∷◌, ◌++◌, refl, ap, ◌∙◌, arith, length, get_or}
use Rattle.std.proofs.{Math.ListN.{set}, lemmas.Bool.{and_parts, and_from}}
use Rattle.html_names_table.specs.NameTables.{NamesView}
use Rattle.html_dom_tree.specs.Tree.{Head, NodesView}
use Rattle.html_dom_flat.specs.ClosedElements.{with_past, closed_at}
use Rattle.html_dom_flat.specs.Flat.{FlatNodeView, flat_element, nodes_count, nodes_flat, element_flat}
use Rattle.html_dom_flat.specs.{FlatViews.{flat_node_view, flat_nodes_view, is_node_given, are_given}, Numbering.{node_with_past}}
use Rattle.html_dom_flat.specs.declared.flat_node.{FlatNode.{FlatNode}, FlatNode.TheVariants.{Element}}

view_ended : (names : NamesView) (past : ℕ) (n : FlatNode) →
    flat_node_view names (node_with_past past n) ≡ with_past past (flat_node_view names n)
view_ended names past (Element e) = refl
view_ended names past n = refl

given_ended : (names : NamesView) (past : ℕ) (n : FlatNode) →
    is_node_given names (node_with_past past n) ≡ is_node_given names n
given_ended names past (Element e) = refl
given_ended names past n = refl

pub given_closed : (names : NamesView) (nodes : List FlatNode) (index past : ℕ) (v d : FlatNode) →
    v ≡ node_with_past past (get_or nodes index d) → are_given names nodes ≡ true →
    are_given names (set nodes index v) ≡ true
given_closed names [] index past v d is given = refl
given_closed names (n ∷ ns) zero past v d is given =
    let parts = and_parts (is_node_given names n) _ given in
    and_from (is_node_given names v) _
    (rw (is, given_ended names past n) parts.0) parts.1
given_closed names (n ∷ ns) (suc index) past v d is given =
    let parts = and_parts (is_node_given names n) _ given in
    and_from (is_node_given names n) _ parts.0
    (given_closed names ns index past v d is parts.1)

pub closed : (names : NamesView) (nodes : List FlatNode) (index past : ℕ) (v d : FlatNode) →
    v ≡ node_with_past past (get_or nodes index d) → index < length nodes →
    flat_nodes_view names (set nodes index v)
    ≡ closed_at index past (flat_nodes_view names nodes)
unfolding closed_at
closed names [] index past v d is below = absurd (omega arith)
closed names (n ∷ ns) zero past v d is below =
    rw (is, view_ended names past n) refl
closed names (n ∷ ns) (suc index) past v d is below =
    ap (λ fs. flat_node_view names n ∷ fs) (closed names ns index past v d is (omega arith))

closed_here : (xs ys : List FlatNodeView) (f : FlatNodeView) (index past : ℕ) → index ≡ length xs →
    closed_at index past ((xs ++ f ∷ []) ++ ys) ≡ xs ++ with_past past f ∷ ys
unfolding closed_at
closed_here [] ys f zero past at = refl
closed_here [] ys f (suc index) past at = absurd (omega arith)
closed_here (x ∷ xs) ys f zero past at = absurd (omega arith)
closed_here (x ∷ xs) ys f (suc index) past at =
    ap (λ fs. x ∷ fs) (closed_here xs ys f index past (omega arith))

pub closed_element : (old opened filled new : List FlatNodeView) (h : Head) (ns : NodesView)
    (index past : ℕ) → index ≡ length old → opened ≡ old ++ flat_element h 0 ∷ [] →
    filled ≡ opened ++ nodes_flat (index + 1) ns → past ≡ index + 1 + nodes_count ns →
    new ≡ closed_at index past filled → new ≡ old ++ element_flat index (h, ns)
closed_element old opened filled new h ns index past at opens fills ends closes =
    closes ∙ rw (fills, opens)
    (closed_here old _ (flat_element h 0) index past at ∙ rw ends refl)
