-- Once runs of blanks are kept, no tab stands alone, and the walk goes past each node.
use Rattle.std.proofs.{Common.{◌≡◌, ℕ, true, false, ◌||◌, List, [], ◌∷◌, ◌++◌, inl, inr, refl, ap, ◌∙◌, sym}, Math.Bool.{or-false}}
use Rattle.std.{proofs.lemmas.Bool.{cases_Bool, false≢true, or_parts, or_cases, eqb-true}, specs.List.{filter}}
use Rattle.html_dom_tree.specs.{Styled.{styled_nodes}, Tree.{NodeView, tag_node, text_node, is_tag}, Views.{nodes_of}}
use Rattle.html_dom_shown.{proofs.NodeAtoms.{nodes_atoms}, specs.Collapsing.{Atom, kept, text_atoms}}
use Rattle.html_flow_convert.specs.{Nodes.{is_one}, Runs.{is_tab, is_blank_node, first_node_span, are_kept, run_nodes, nodes_with_runs}}
use Rattle.typst_html_spaces.proofs.{Each.{Each}, EachRun.{IsInRun, of_each_run}, ReadyNodes.{tag_ready, wrap_ready}}
use Rattle.typst_html_spaces.proofs.{ReadyPieces.{AlmostReady}, Walks.{Unseen, Ready, nothing_unseen}}

-- single characters

pub one_char : (d : ℕ) (s : List ℕ) → is_one d s ≡ true → s ≡ d ∷ []
one_char d (c ∷ []) e = ap (λ x. x ∷ []) (eqb-true _ _ e)
one_char d s e = absurd (false≢true e)

-- a run in a `span`

kept_before : (c : ℕ) (xs : List Atom) → Unseen xs → Unseen (kept c ∷ xs)
kept_before c xs u =
    record { at = refl; past = u.past; stay = λ b a. (tt, u.stay true a) }

blank_unseen : (s : List ℕ) (xs : List Atom) → (is_one 32 s || is_one 9 s) ≡ true → Unseen xs →
    Unseen (text_atoms true s ++ xs)
blank_unseen s xs e u = elim (or_cases _ _ e) [
  | inl f ↦ rw (one_char 32 s f) (kept_before 32 xs u)
  | inr f ↦ rw (one_char 9 s f) (kept_before 9 xs u)
]

run_unseen : (ns : List NodeView) → Each IsInRun ns → Unseen (nodes_atoms true (styled_nodes (nodes_of ns)))
unfolding styled_nodes
run_unseen [] r = nothing_unseen
run_unseen (tag_node t ∷ ns) r = run_unseen ns r.1
run_unseen (text_node s span ∷ ns) r =
    blank_unseen s (nodes_atoms true (styled_nodes (nodes_of ns)))
    (sym (or-false (is_one 32 s || is_one 9 s)) ∙ r.0) (run_unseen ns r.1)
run_unseen (n ∷ ns) r = absurd (false≢true r.0)

-- a run that is not kept has no tab

no_tab : (n : NodeView) → is_tab n ≡ false → AlmostReady n → Ready n
no_tab n e (inl t) = absurd (false≢true (sym e ∙ t))
no_tab n e (inr r) = r

no_more : (n : NodeView) (ns : List NodeView) → are_kept (n ∷ ns) ≡ false →
    (is_tab n ≡ false) × (are_kept ns ≡ false)
no_more n [] e = (e, refl)
no_more n (m ∷ ns) e = absurd (false≢true (sym e))

few_ready : (ns : List NodeView) → Each AlmostReady ns → are_kept (filter is_blank_node ns) ≡ false →
    Each Ready ns
few_ready [] r e = tt
few_ready (n ∷ ns) r e = elim (cases_Bool (is_blank_node n)) [
  | inl b ↦
      let f : are_kept (n ∷ filter is_blank_node ns) ≡ false = rw b at e in
      let left = no_more n (filter is_blank_node ns) f in
      (no_tab n left.0 r.0, few_ready ns r.1 left.1)
  | inr b ↦ let f : are_kept (filter is_blank_node ns) ≡ false = rw b at e in
      (no_tab n (or_parts _ _ b).1 r.0, few_ready ns r.1 f)
]

run_ready : (ns : List NodeView) → Each IsInRun ns → Each AlmostReady ns → Each Ready (run_nodes ns)
run_ready ns r s = elim (cases_Bool (are_kept (filter is_blank_node ns))) [
  | inl e ↦ rw e (wrap_ready (first_node_span ns) (nodes_of ns) (run_unseen ns r), tt)
  | inr e ↦ rw e (few_ready ns s e)
]

tag_is_ready : (n : NodeView) → is_tag n ≡ true → Ready n
tag_is_ready (tag_node t) e = tag_ready t
tag_is_ready n e = absurd (false≢true e)

other_is_ready : (n : NodeView) → (is_blank_node n || is_tag n) ≡ false → AlmostReady n → Ready n
other_is_ready n e =
    no_tab n (or_parts _ _ (or_parts _ _ e).0).1

pub runs_ready : (ns : List NodeView) → Each AlmostReady ns → Each Ready (nodes_with_runs ns)
runs_ready = of_each_run AlmostReady Ready run_ready (λ n e r. tag_is_ready n e) other_is_ready
