-- Nodes in a row, and the element at the root.
use Rattle.std.proofs.Common.{◌≡◌, ℕ, ◌+◌, true, false, List, [], ◌∷◌, ◌++◌, map, Some, None, Result, Ok, Err, refl, sym, ap, ◌∙◌, slice_index_or, arith, append_assoc, append-nil}
use Rattle.std.{proofs.lemmas.List.{length-map}, specs.Prelude.{IsOkAnd}}
use Rattle.serde_json.specs.{Data.{Data}, View.{view, items_view}, declared.value.Value.{Value}}
use Rattle.html_dom_flat.{proofs.Closings.{closed_element}, specs.Builders.{builder_view, built_count}, specs.ClosedElements.{closed_at}}
use Rattle.html_dom_flat.specs.{Flat.{flat_element, node_flat, nodes_count, nodes_flat}, FlatTrees.{tree_nodes}, FlatViews.{flat_node_view}}
use Rattle.html_dom_flat.specs.declared.{builder.Builder.{Builder}, flat_tree.FlatTree.{FlatTree}}
use Rattle.html_dom_tree.proofs.Basics.{node_view-Element}
use Rattle.html_dom_tree.specs.Tree.{Head, NodeView, tag_node, text_node, element_node, frame_node, NodesView, none, node}
use Rattle.html_dom_tree.specs.{Views.{node_view, nodes_view, element_view}, declared.node.HtmlElement.{HtmlElement}}
use Rattle.html_dom_tree.specs.declared.node.HtmlNode as HtmlNode
use Rattle.html_dom_tree.specs.declared.{node.HtmlNode.{HtmlNode}, span.Span.{Span}}
use Rattle.typst_html_json.proofs.Readings.{IsOwnFirst, first_of_none, read_from, refused_whole}
use Rattle.typst_html_json.proofs.Rows.{Row, joined, joined-more, IsPartRead, none_read, one_read, all_read}
use Rattle.typst_html_json.specs.{LeftForms.{Left}, Marks.{Mark, at_start}}
use Rattle.typst_html_json.specs.NameRefusals.{Refusal, name_refusals, all_name_refusals, element_refusals}
use Rattle.typst_html_json.specs.{Reading.{first_of, mark, IsRead, IsAdded, AreAdded, AddsNode}, Refusals.{IsFirst}}
use Rattle.typst_html_json.specs.Spelled.{begins_with_element, IsFirstElement, element_made, spelled_node, spelled_all, element_of, spelled_element}
use Rattle.typst_html_json.specs.{Spelling.{IsTreeOf}, declared.fault.Fault.{Fault}, declared.fault.Fault.TheVariants.{Refused}}
use Rattle.typst_html_json.specs.declared.reader.Reader.{Reader}

pub none_clean : all_name_refusals none ≡ []
unfolding all_name_refusals
none_clean = refl

pub one_more : (n : NodeView) (ns : NodesView)
    → all_name_refusals (node n ns) ≡ name_refusals n ++ all_name_refusals ns
unfolding all_name_refusals
one_more n ns = refl

abbrev pub nodes_row : Row NodeView NodesView
nodes_row = record {
  add = node;
  nothing = none;
  one = spelled_node;
  all = spelled_all;
  ones = name_refusals;
  alls = all_name_refusals;
  ends = λ n. refl;
  steps = λ d ds n. refl;
  clean = none_clean;
  adds = one_more;
}

pub own_first : IsOwnFirst element_made name_refusals all_name_refusals
unfolding name_refusals
own_first span tag pairs kids = refl

refused_node : (w : NodeView) (m : Mark) (code : ℕ) (span : Span)
    → IsFirst (Refused code span) (name_refusals w)
    → IsOkAnd (element_of (w, m)) (λ e. IsFirst (Refused code span) (element_refusals e))
unfolding name_refusals
refused_node (element_node head kids) m code span h = h
refused_node x m code span h = absurd (cc (h.1))

pub refused_element : (d : Data) (made : NodeView) (before after : Reader) (code : ℕ) (span : Span)
    → mark before ≡ at_start → before.refused ≡ None → after.refused ≡ Some (code, span)
    → IsRead name_refusals made (spelled_node d (mark before)) before after
    → IsOkAnd (spelled_element d) (λ e. IsFirst (Refused code span) (element_refusals e))
refused_element d made before after code span first clear is r =
    rw (← first, r.spelled)
    (refused_node r.whole (mark after) code span
    (refused_whole name_refusals made (spelled_node d (mark before)) before after code span clear is r))

-- a node of a list that was just opened
pub added_from : (r : Result (Unit {0}) Fault) (wanted : Left (NodeView × Mark))
    (old new : Builder) (before since after : Reader) → since.refused ≡ before.refused
    → AddsNode r wanted old new since after → AddsNode r wanted old new before after
added_from (Ok done) wanted old new before since after kept h = record {
  made = h.made;
  list = h.list;
  count = h.count;
  read = read_from name_refusals h.made wanted before since after kept h.read;
}
added_from (Err e) wanted old new before since after kept h = h

abbrev pub itself : NodeView → NodeView
itself n = n

-- those before `left` were read and appended: with the others all are
pub record ArePartAdded (wanted : Left (NodesView × Mark)) (left : List Value) (old now : Builder)
    (before since : Reader) : Type 0 where
  pub made : List NodeView
  pub read : IsPartRead nodes_row itself wanted left made before since
  pub list : (others : NodesView) → builder_view now ++ nodes_flat (built_count now) others
      ≡ builder_view old ++ nodes_flat (built_count old) (joined node (map itself made) others)
  pub count : (others : NodesView) → built_count now + nodes_count others
      ≡ built_count old + nodes_count (joined node (map itself made) others)

pub none_added : (wanted : Left (NodesView × Mark)) (vs : List Value) (old : Builder)
    (before : Reader) → wanted ≡ spelled_all (items_view vs) (mark before)
    → ArePartAdded wanted vs old old before before
none_added wanted vs old before is = record {
  made = [];
  read = none_read nodes_row itself wanted vs [] before is refl;
  list = λ others. refl;
  count = λ others. refl;
}

pub one_added : (wanted : Left (NodesView × Mark)) (left rest : List Value) (v : Value)
    (old now new : Builder) (s t u : Reader) → ArePartAdded wanted left old now s t
    → left ≡ v ∷ rest → IsAdded (spelled_node (view v) (mark t)) now new t u
    → ArePartAdded wanted rest old new s u
unfolding nodes_flat nodes_count
one_added wanted left rest v old now new s t u p is r = record {
  made = p.made ++ r.made ∷ [];
  read = one_read nodes_row itself wanted left rest v p.made r.made s t u p.read is r.read;
  list = λ others.
      rw (r.list, r.count, append_assoc, ← joined-more node itself p.made r.made others)
      (p.list (node r.made others));
  count = λ others.
      rw (r.count, ← joined-more node itself p.made r.made others)
      (omega (arith, p.count (node r.made others)));
}

pub all_added : (wanted : Left (NodesView × Mark)) (left : List Value) (old now : Builder)
    (s t : Reader) → ArePartAdded wanted left old now s t → left ≡ []
    → AreAdded wanted old now s t
unfolding nodes_flat nodes_count
all_added wanted left old now s t p is = record {
  made = joined node (map itself p.made) none;
  list = sym (append-nil (builder_view now)) ∙ p.list none;
  count = omega (arith, p.count none);
  read = all_read nodes_row itself wanted left p.made s t p.read is;
}

-- a node that was appended to nothing
pub one_list : (wanted : Left (NodeView × Mark)) (old new : Builder) (s t : Reader)
    → builder_view old ≡ [] → built_count old ≡ 0 → (r : IsAdded wanted old new s t)
    → builder_view new ≡ nodes_flat 0 (node r.made none)
unfolding nodes_flat
one_list wanted old new s t empty zero r =
    r.list ∙ rw (empty, zero) (sym (append-nil (node_flat 0 r.made)))

no_refusals : (before after : Reader) (rs : List Refusal) → before.refused ≡ None
    → after.refused ≡ None → after.refused ≡ first_of before.refused rs → rs ≡ []
no_refusals before after rs clear still noted =
    (first_of_none before.refused rs (sym noted ∙ still)).1

-- the tree of an element that was read
element_read : (d : Data) (made : NodeView) (before after : Reader) (tree : FlatTree)
    → mark before ≡ at_start → spelled_node d (mark before) ≡ Ok (made, mark after)
    → name_refusals made ≡ [] → tree_nodes tree ≡ node made none
    → begins_with_element (node made none) ≡ true → IsTreeOf (spelled_element d) tree
element_read d (element_node h kids) before after tree first is clean spells begins = record {
  root = (h, kids);
  spelled = rw (← first, is) refl;
  nodes = spells;
  clean = clean;
}
element_read d (tag_node t) before after tree first is clean spells begins = absurd (cc)
element_read d (text_node s span) before after tree first is clean spells begins = absurd (cc)
element_read d (frame_node b) before after tree first is clean spells begins = absurd (cc)

other_read : (d : Data) (made : NodeView) (before after : Reader) → mark before ≡ at_start
    → spelled_node d (mark before) ≡ Ok (made, mark after)
    → begins_with_element (node made none) ≡ false → spelled_element d ≡ Err 1
other_read d (element_node h kids) before after first is begins = absurd (cc)
other_read d (tag_node t) before after first is begins = rw (← first, is) refl
other_read d (text_node s span) before after first is begins = rw (← first, is) refl
other_read d (frame_node b) before after first is begins = rw (← first, is) refl

module _ (d : Data) (made : NodeView) (before after : Reader) (tree : FlatTree)
    (first : mark before ≡ at_start) (clear : before.refused ≡ None) (still : after.refused ≡ None)
    (r : IsRead name_refusals made (spelled_node d (mark before)) before after)
    (spells : tree_nodes tree ≡ node made none) where
  spelled : spelled_node d (mark before) ≡ Ok (made, mark after)
  spelled = r.spelled ∙ ap (λ n. Ok (n, mark after)) (sym (r.same still))

  pub tree_read : begins_with_element (tree_nodes tree) ≡ true → IsTreeOf (spelled_element d) tree
  tree_read begins =
      element_read d made before after tree first spelled
      (ap name_refusals (r.same still)
      ∙ no_refusals before after (name_refusals r.whole) clear still r.noted)
      spells (ap begins_with_element (sym spells) ∙ begins)

  pub tree_left : begins_with_element (tree_nodes tree) ≡ false → spelled_element d ≡ Err 1
  tree_left begins =
      other_read d made before after first spelled (ap begins_with_element (sym spells) ∙ begins)

-- the first of the nodes, where that is an element
pub first_element : (nodes : List HtmlNode) (ns : NodesView) (root : HtmlElement) (first : HtmlNode)
    → nodes_view nodes ≡ ns → first ≡ slice_index_or nodes 0 first → first ≡ HtmlNode.Element root
    → begins_with_element ns ≡ true → IsFirstElement ns (element_view root)
first_element [] ns root first same at is begins =
    absurd (cc (ap begins_with_element same ∙ begins))
first_element (n ∷ others) ns root first same at is begins =
    let seen : node_view n ≡ element_node (element_view root).0 (element_view root).1
    = ap node_view (sym at ∙ is) ∙ node_view-Element root in
    (nodes_view others, sym same ∙ ap (λ m. node m (nodes_view others)) seen)

-- an element that was started, filled and closed
pub element_added : (old opened filled closed : Builder) (h : Head) (ns : NodesView) (index : ℕ)
    → index ≡ built_count old → builder_view opened ≡ builder_view old ++ flat_element h 0 ∷ []
    → built_count opened ≡ built_count old + 1
    → builder_view filled ≡ builder_view opened ++ nodes_flat (built_count opened) ns
    → built_count filled ≡ built_count opened + nodes_count ns
    → builder_view closed ≡ closed_at index (built_count filled) (builder_view filled)
    → builder_view closed ≡ builder_view old ++ node_flat (built_count old) (element_node h ns)
unfolding node_flat
element_added old opened filled closed h ns index at opens one fills ends closes =
    closed_element (builder_view old) (builder_view opened) (builder_view filled)
    (builder_view closed) h ns (built_count old) (built_count filled)
    (old.nodes.ok.0 ∙ sym (length-map old.nodes.items (flat_node_view old.names)))
    opens (rw one at fills) (ends ∙ ap (λ k. k + nodes_count ns) one) (rw at at closes)
