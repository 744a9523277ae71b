-- The ids of a tree whose names differ are not repeated.
use Rattle.std.proofs.Common.{◌≡◌, Bool, true, false, not, List, [], ◌∷◌, ◌++◌, refl, ap, ◌∙◌, arith}
use Rattle.std.{proofs.lemmas.Bool.{and_parts}, proofs.lemmas.List.{append-nil}, specs.Prelude.{if◌then◌else◌}}
use Rattle.html_names_core.specs.Names.{stands_in}
use Rattle.html_dom_tree.specs.Tree.{element_node, none, node, ElementView}
use Rattle.html_links.proofs.{Differing.{are_new, at_most_one, distinct_once, new_distinct, once_distinct}, InDocument.{document_occurs}}
use Rattle.html_links.{proofs.ShownNames.{shown_count}, specs.Distinct.{are_distinct, occurrences}, specs.InDocument.{in_document}}
use Rattle.html_links.specs.TreeNames.{Name, all_ids, element_names, nodes_names, with_used_name, gathered_names}
use Rattle.html_page_findings.proofs.TreeTexts.{placed_ids_are_ids}
use Rattle.html_page_findings.specs.{CheckLaws.{DistinctAreNotRepeated, texts_of}, PlacedTexts.{Placed}}
use Rattle.html_page_findings.specs.RepeatedIds.{placed_ids, repeated, tree_ids}

none_repeated : (used : Name → Bool) (ps : List Placed) → are_new used (texts_of ps) ≡ true →
    repeated used ps ≡ []
unfolding repeated
none_repeated used [] new = refl
none_repeated used (p ∷ ps) new =
    let parts = and_parts (not (used p.1)) (are_new (with_used_name p.1 used) (texts_of ps)) new in
    by (used p.1) parts.0 (none_repeated (with_used_name p.1 used) ps parts.1)
  where
    by : (b : Bool) → not b ≡ true → repeated (with_used_name p.1 used) ps ≡ [] →
        (if b then p ∷ [] else []) ++ repeated (with_used_name p.1 used) ps ≡ []
    by true e so = cc
    by false e so = so

all_names : (e : ElementView) → nodes_names (node (element_node e.0 e.1) none) ≡ element_names e
unfolding gathered_names
all_names e = ap (λ l. all_ids e.0.attrs ++ l) (append-nil (nodes_names e.1))

ids_differ : (e : ElementView) → are_distinct (element_names e) ≡ true →
    are_distinct (tree_ids e) ≡ true
ids_differ e distinct = once_distinct (tree_ids e) (λ n.
    let whole : occurrences (nodes_names (node (element_node e.0 e.1) none)) n
    ≡ occurrences (element_names e) n = ap (λ names. occurrences names n) (all_names e) in
    omega (
      arith,
      shown_count n (node (element_node e.0 e.1) none),
      whole,
      distinct_once (element_names e) n distinct,
      at_most_one (stands_in (element_names e) n),
    ))

-- and so do those of the document
fewer_differ : (e : ElementView) → are_distinct (tree_ids e) ≡ true →
    are_distinct (tree_ids (in_document e)) ≡ true
fewer_differ e distinct = once_distinct (tree_ids (in_document e)) (λ n.
    omega (
      arith,
      document_occurs e n,
      distinct_once (tree_ids e) n distinct,
      at_most_one (stands_in (tree_ids e) n),
    ))

pub distinct_are_not_repeated : DistinctAreNotRepeated
distinct_are_not_repeated e distinct =
    none_repeated (stands_in []) (placed_ids e)
    (ap (are_new (stands_in [])) (placed_ids_are_ids e)
    ∙ (new_distinct (tree_ids (in_document e)) ∙ fewer_differ e (ids_differ e distinct)))
