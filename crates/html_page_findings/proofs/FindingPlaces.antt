-- The path of what is found in elements leads to its element.
use Rattle.std.proofs.Common.{◌≡◌, ℕ, zero, suc, ◌+◌, Bool, true, false, List, [], ◌∷◌, ◌++◌, Option, Some, None, refl, sym, ap, ◌∙◌, append_assoc, subst, arith}
use Rattle.std.proofs.lemmas.List.Elements.{All-append, All-cons, All-contains_itself, All-filter, All-head, All-map, All-nil, All-tail, All-weaker}
use Rattle.std.specs.{List.{All, Contains}, Prelude.{not, if◌then◌else◌, option_and_then, option_map}}
use Rattle.html_names_core.specs.Names.{stands_in}
use Rattle.html_dom_tree.specs.{ByIndex.{element_at_index}, FrameFree.{ElementIsFrameFree, NodeIsFrameFree, NodesAreFrameFree}}
use Rattle.html_dom_tree.specs.Tree.{TextPair, Head, NodeView, tag_node, text_node, element_node, frame_node, NodesView, none, node, ElementView}
use Rattle.html_links.specs.{Bases.{base_is_elsewhere}, InDocument.{document_places, in_document, kept, keeps, node_part, nodes_part}}
use Rattle.html_links.specs.{Indicated.{leads}, TreeNames.{Name, with_used_name}}
use Rattle.html_page_findings.proofs.TreeTexts.{without_frames}
use Rattle.html_page_findings.specs.{CheckLaws.{AllFindingsStand, StandsAt}, ElementPaths.{element_at}}
use Rattle.html_page_findings.specs.Fragments.{dead_among, fragments, fragment_links}
use Rattle.html_page_findings.specs.PlacedTexts.{Placed, TextKind, element_placed, head_texts, node_placed, nodes_placed, of_elements, placed_at}
use Rattle.html_page_findings.specs.RepeatedIds.{ids, placed_ids, repeated}

-- the texts that elements have
module _ (own : List ℕ → List TextPair → List (List ℕ)) where
  -- it holds of the texts of each element at or below nodes, which are children from an index on
  abbrev HoldsBelow : (P : Placed → Type 0) (parent : List ℕ) (i : ℕ) (ns : NodesView) → Type 0
  HoldsBelow P parent i ns = (index child : ℕ) → index ≡ i + child → (rest : List ℕ) (a : ElementView)
      → option_and_then (element_at rest) (element_at_index ns child) ≡ Some a
      → (text : List ℕ) → Contains (own a.0.name a.0.attrs) text → P (parent ++ index ∷ rest, text)

  -- one node further on
  behind : (P : Placed → Type 0) (parent : List ℕ) (i : ℕ) (n : NodeView) (ns : NodesView) →
      HoldsBelow P parent i (node n ns) → HoldsBelow P parent (suc i) ns
  behind P parent i n ns holds index child is = holds index (suc child) (omega (arith, is))

  -- one level further down
  inside : (P : Placed → Type 0) (parent : List ℕ) (i : ℕ) (h : Head) (kids ns : NodesView) →
      HoldsBelow P parent i (node (element_node h kids) ns) → HoldsBelow P (parent ++ i ∷ []) 0 kids
  inside P parent i h kids ns holds index child is rest a found text has =
      let same : index ≡ child = omega (arith, is) in
      subst (λ path. P (path, text)) (sym (append_assoc parent (i ∷ []) (index ∷ rest)))
      (holds i 0 (omega arith) (index ∷ rest) a (rw same found) text has)

  own_hold : (P : Placed → Type 0) (path : List ℕ) (ts : List (List ℕ)) →
      ((text : List ℕ) → Contains ts text → P (path, text)) → All P (placed_at path ts)
  own_hold P path ts holds =
      All-map P (λ t. (path, t)) ts
      (All-weaker (Contains ts) (λ t. P (path, t)) holds ts (All-contains_itself ts))

  all_below : (P : Placed → Type 0) (parent : List ℕ) (i : ℕ) (ns : NodesView) →
      HoldsBelow P parent i ns → All P (nodes_placed (of_elements own) parent i ns)
  unfolding nodes_placed node_placed
  all_below P parent i none holds = All-nil P
  all_below P parent i (node (tag_node t) ns) holds =
      all_below P parent (suc i) ns (behind P parent i (tag_node t) ns holds)
  all_below P parent i (node (text_node s span) ns) holds =
      all_below P parent (suc i) ns (behind P parent i (text_node s span) ns holds)
  all_below P parent i (node (frame_node f) ns) holds =
      all_below P parent (suc i) ns (behind P parent i (frame_node f) ns holds)
  all_below P parent i (node (element_node h kids) ns) holds =
      let here = parent ++ i ∷ [] in
      All-append P _ _
      (All-append P _ _
      (own_hold P here (own h.name h.attrs) (holds i 0 (omega arith) [] (h, kids) refl))
      (all_below P here 0 kids (inside P parent i h kids ns holds)))
      (all_below P parent (suc i) ns (behind P parent i (element_node h kids) ns holds))

  -- all stand in the elements to which their paths lead
  all_stand : (e : ElementView) →
      All (StandsAt (of_elements own) e) (element_placed (of_elements own) e)
  unfolding node_placed
  all_stand e =
      let P = StandsAt (of_elements own) e in
      All-append P _ _ (own_hold P [] (own e.0.name e.0.attrs) (λ text has. (e, refl, has)))
      (all_below P [] 0 e.1 (λ index child is rest a found text has.
      let same : index ≡ child = omega (arith, is) in
      (a, rw same found, has)))

-- in a tree without frames all ids are those of elements
ids_stand : (e : ElementView) → ElementIsFrameFree e →
    All (StandsAt ids e) (element_placed ids e)
unfolding node_placed
ids_stand e free = rw (without_frames ids [] 0 e.1 free) (all_stand ids.own e)

All-repeated : (P : Placed → Type 0) (used : Name → Bool) (ps : List Placed) → All P ps →
    All P (repeated used ps)
unfolding repeated
All-repeated P used [] all = All-nil P
All-repeated P used (p ∷ ps) all =
    by (used p.1) (All-repeated P (with_used_name p.1 used) ps (All-tail P p ps all))
  where
    by : (b : Bool) → All P (repeated (with_used_name p.1 used) ps) →
        All P ((if b then p ∷ [] else []) ++ repeated (with_used_name p.1 used) ps)
    by true rest = All-cons P p (repeated (with_used_name p.1 used) ps) (All-head P p ps all) rest
    by false rest = rest

-- a path to an element of the document leads there in the whole tree too

part_at : (ns : NodesView) (i : ℕ) → element_at_index (nodes_part false ns) i
    ≡ option_map in_document (element_at_index ns i)
unfolding nodes_part node_part
part_at none i = refl
part_at (node (tag_node t) ns) zero = refl
part_at (node (text_node s span) ns) zero = refl
part_at (node (element_node h kids) ns) zero = refl
part_at (node (frame_node f) ns) zero = refl
part_at (node n ns) (suc i) = part_at ns i

abbrev FoundIn : (path : List ℕ) (e a : ElementView) → Type 0
FoundIn path e a = (b : ElementView) × (element_at path e ≡ Some b) × (b.0 ≡ a.0)

-- one step further up
module _ (i : ℕ) (path : List ℕ) (e a : ElementView)
    (below : (x : ElementView) → element_at path (in_document x) ≡ Some a → FoundIn path x a) where
  found_from : (x : Option ElementView) → element_at_index e.1 i ≡ x →
      option_and_then (element_at path) (option_map in_document x) ≡ Some a →
      FoundIn (i ∷ path) e a
  found_from None there found = cc
  found_from (Some x) there found =
      let inside = below x found in
      (inside.0, ap (option_and_then (element_at path)) there ∙ inside.1, inside.2)

  found_below : (b : Bool) → option_and_then (element_at path)
      (element_at_index (kept b (nodes_part false e.1)) i) ≡ Some a →
      FoundIn (i ∷ path) e a
  found_below true found =
      found_from (element_at_index e.1 i) refl
      (sym (ap (option_and_then (element_at path)) (part_at e.1 i)) ∙ found)
  found_below false found = cc

found_in_tree : (path : List ℕ) (e a : ElementView) → element_at path (in_document e) ≡ Some a →
    FoundIn path e a
found_in_tree [] e a is =
    let same : in_document e ≡ a = cc in
    (e, refl, ap (λ (x : ElementView). x.0) same)
found_in_tree (i ∷ path) e a is =
    found_below i path e a (λ x found. found_in_tree path x a found) (keeps false e.0.name) is

stands_in_tree : (kind : TextKind) (e : ElementView) (p : Placed) →
    StandsAt kind (in_document e) p → StandsAt kind e p
stands_in_tree kind e p there =
    let found = found_in_tree p.0 e there.0 there.1 in (
      found.0,
      found.1,
      subst (λ (h : Head). Contains (head_texts kind h) p.1) (sym found.2) there.2,
    )

kept_frame_free : (b : Bool) (part : NodesView) → NodesAreFrameFree part →
    NodesAreFrameFree (kept b part)
unfolding NodesAreFrameFree
kept_frame_free true part free = free
kept_frame_free false part free = tt

part_frame_free : (ns : NodesView) → NodesAreFrameFree ns → NodesAreFrameFree (nodes_part false ns)
unfolding nodes_part node_part NodesAreFrameFree NodeIsFrameFree
part_frame_free none free = tt
part_frame_free (node (tag_node t) ns) free = (tt, part_frame_free ns free.1)
part_frame_free (node (text_node s span) ns) free = (tt, part_frame_free ns free.1)
part_frame_free (node (element_node h kids) ns) free = (
  kept_frame_free (keeps false h.name) (nodes_part false kids) (part_frame_free kids free.0),
  part_frame_free ns free.1,
)
part_frame_free (node (frame_node f) ns) free = absurd free.0

pub document_frame_free : (e : ElementView) → ElementIsFrameFree e → ElementIsFrameFree (in_document e)
document_frame_free e free =
    kept_frame_free (keeps false e.0.name) (nodes_part false e.1) (part_frame_free e.1 free)

pub all_findings_stand : AllFindingsStand
all_findings_stand e = record {
  dead = by (base_is_elsewhere e)
      (All-filter (λ link. not (leads (stands_in (document_places e)) link.1)) (StandsAt fragments e)
      (fragment_links e)
      (All-weaker (StandsAt fragments (in_document e)) (StandsAt fragments e)
      (stands_in_tree fragments e) (fragment_links e) (all_stand fragments.own (in_document e))));
  repeated = λ free. All-repeated (StandsAt ids e) (stands_in []) (placed_ids e)
      (All-weaker (StandsAt ids (in_document e)) (StandsAt ids e) (stands_in_tree ids e) (placed_ids e)
      (ids_stand (in_document e) (document_frame_free e free)));
}
  where
    by : (b : Bool) → All (StandsAt fragments e)
        (dead_among (stands_in (document_places e)) (fragment_links e)) →
        All (StandsAt fragments e)
        (if b then [] else dead_among (stands_in (document_places e)) (fragment_links e))
    by true all = All-nil (StandsAt fragments e)
    by false all = all
