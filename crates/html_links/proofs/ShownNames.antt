-- How often the names that links can lead to come among all names of a tree.
use Rattle.std.proofs.Common.{◌≡◌, ℕ, ◌≤◌, Bool, true, false, List, [], ◌∷◌, ◌++◌, Some, bytes_eq, codes, arith}
use Rattle.std.specs.Prelude.{if◌then◌else◌, option_to_list}
use Rattle.html_names_core.specs.Names.{stands_in}
use Rattle.html_dom_tree.specs.Attributes.{first}
use Rattle.html_dom_tree.specs.Tree.{TextPair, tag_node, text_node, element_node, frame_node, NodesView, none, node, ElementView}
use Rattle.html_links.proofs.Differing.{at_most_one, distinct_once, occurrences-append, stands_occurs}
use Rattle.html_links.specs.Distinct.{are_distinct, occurrences}
use Rattle.html_links.specs.TreeNames.{shown_names, Name, all_ids, element_names, first_id, frame_names, nodes_names, gathered_names}

module _ (n : Name) where
  abbrev count : List Name → ℕ
  count names = occurrences names n

  first_count : (attrs : List TextPair) →
      count (option_to_list (first attrs (codes "id"))) ≤ count (all_ids attrs)
  first_count [] = omega arith
  first_count (p ∷ ps) = by (bytes_eq p.0 (codes "id")) (first_count ps)
    where
      by : (b : Bool) → count (option_to_list (first ps (codes "id"))) ≤ count (all_ids ps) →
          count (option_to_list (if b then Some p.1 else first ps (codes "id")))
          ≤ count (if b then p.1 ∷ all_ids ps else all_ids ps)
      by true so =
          omega (arith, occurrences-append (p.1 ∷ []) (all_ids ps) n)
      by false so = so

  pub shown_count : (ns : NodesView) → count (shown_names ns) ≤ count (nodes_names ns)
  unfolding gathered_names
  shown_count none = omega arith
  shown_count (node (tag_node t) ns) = shown_count ns
  shown_count (node (text_node s span) ns) = shown_count ns
  shown_count (node (element_node h kids) ns) =
      let first = option_to_list (first_id h) in
      omega (
        arith,
        first_count h.attrs,
        shown_count kids,
        shown_count ns,
        occurrences-append first (shown_names kids ++ shown_names ns) n,
        occurrences-append (shown_names kids) (shown_names ns) n,
        occurrences-append (all_ids h.attrs) (nodes_names kids ++ nodes_names ns) n,
        occurrences-append (nodes_names kids) (nodes_names ns) n,
      )
  shown_count (node (frame_node f) ns) =
      omega (
        arith,
        shown_count ns,
        occurrences-append (frame_names f) (shown_names ns) n,
        occurrences-append (frame_names f) (nodes_names ns) n,
      )

  pub shown_once : (e : ElementView) → are_distinct (element_names e) ≡ true →
      stands_in (shown_names e.1) n ≡ true → count (element_names e) ≡ 1
  shown_once e distinct shown =
      omega (
        arith,
        stands_occurs (shown_names e.1) n shown,
        shown_count e.1,
        occurrences-append (all_ids e.0.attrs) (nodes_names e.1) n,
        distinct_once (element_names e) n distinct,
        at_most_one (stands_in (element_names e) n),
      )
