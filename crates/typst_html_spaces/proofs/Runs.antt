-- Totals over lists of nodes that stay the same when runs of blanks are put in spans.
use Rattle.std.proofs.{Common.{◌≡◌, ◌||◌, List, [], ◌∷◌, ◌++◌, inl, inr, refl, ap, ◌∙◌, sym, append-nil}, lemmas.Bool.{cases_Bool}}
use Rattle.std.specs.List.{filter}
use Rattle.html_dom_tree.specs.{Tree.{NodeView, is_tag}, Views.{nodes_of}}
use Rattle.html_flow_convert.specs.Runs.{is_blank_node, are_kept, first_node_span, run_nodes, front_nodes, blank_front, after_front, nodes_with_runs}
use Rattle.typst_html_spaces.proofs.OwnPieces.{list_pieces, list_pieces-append, pre_wrap_pieces}

module _ {M : Type 0} (total : List NodeView → M) (add : M → M → M)
    (append : (xs ys : List NodeView) → total (xs ++ ys) ≡ add (total xs) (total ys))
    (run : (ns : List NodeView) → total (run_nodes ns) ≡ total ns) where
  past_one : (n : NodeView) (xs ys : List NodeView) → total xs ≡ total ys →
      total (n ∷ xs) ≡ total (n ∷ ys)
  past_one n xs ys e =
      append (n ∷ []) xs ∙ (ap (add (total (n ∷ []))) e ∙ sym (append (n ∷ []) ys))

  fronted : (ns : List NodeView) → total (front_nodes ns) ≡ total ns
  fronted [] = refl
  fronted (n ∷ ns) =
      elim (cases_Bool (is_tag n)) [
        | inl e ↦ rw e (past_one n (front_nodes ns) ns (fronted ns))
        | inr e ↦ rw e (run (n ∷ ns))
      ]

  before_rest : (xs ys : List NodeView) → total (front_nodes xs ++ ys) ≡ total (xs ++ ys)
  before_rest xs ys =
      append (front_nodes xs) ys ∙ (ap (λ t. add t (total ys)) (fronted xs) ∙ sym (append xs ys))

  split : (ns : List NodeView) → total (blank_front ns ++ after_front ns) ≡ total ns
  unfolding blank_front after_front
  split [] = refl
  split (n ∷ ns) =
      elim (cases_Bool (is_blank_node n || is_tag n)) [
        | inl e ↦ rw e (past_one n (blank_front ns ++ after_front ns) ns (split ns))
        | inr e ↦ rw e (past_one n (front_nodes (blank_front ns) ++ after_front ns) ns
            (before_rest (blank_front ns) (after_front ns) ∙ split ns))
      ]

  pub with_runs : (ns : List NodeView) → total (nodes_with_runs ns) ≡ total ns
  with_runs ns = before_rest (blank_front ns) (after_front ns) ∙ split ns

-- what is seen is such a total

run_pieces : (ns : List NodeView) → list_pieces (run_nodes ns) ≡ list_pieces ns
run_pieces ns =
    elim (cases_Bool (are_kept (filter is_blank_node ns))) [
      | inl e ↦ rw e (append-nil _ ∙ pre_wrap_pieces (first_node_span ns) (nodes_of ns))
      | inr e ↦ rw e refl
    ]

pub runs_pieces : (ns : List NodeView) → list_pieces (nodes_with_runs ns) ≡ list_pieces ns
runs_pieces = with_runs list_pieces (λ ps qs. ps ++ qs) list_pieces-append run_pieces
