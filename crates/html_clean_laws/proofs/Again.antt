-- Cleaning clean nodes changes nothing.
use Rattle.std.proofs.Common.{◌≡◌, ℕ, Bool, true, false, List, [], ◌∷◌, refl, ap, sym, subst, ◌∙◌}
use Rattle.std.proofs.lemmas.Bool.{false≢true}
use Rattle.std.specs.Prelude.{if◌then◌else◌}
use Rattle.html_names_core.specs.Kinds.{is_void}
use Rattle.html_dom_tree.specs.Tree.{Head, NodeView, tag_node, text_node, element_node, frame_node, NodesView, none, node, plain_head, with_last}
use Rattle.html_page_nesting.specs.{Kept.{in_body, keeps_element}, Walks.{surroundings_in}}
use Rattle.html_page_nesting.specs.declared.surroundings.Surroundings.{Surroundings}
use Rattle.typst_html_nesting_laws.proofs.Branches.{pick, skip}
use Rattle.html_clean_values.specs.Replaced.{replaced}
use Rattle.html_clean_policy.specs.{Policies.{PolicyView}}
use Rattle.html_clean_nodes.specs.Cleaned.{first_text, kept_head, node_cleaned, nodes_cleaned, parted, parts, stays, text_cleaned, with_text}
use Rattle.html_clean_laws.proofs.{Lists.{all_first, all_in_turn, all_nodes, behind_first, is_first}, Names.{not_dropped}, Texts.{none_taken}}
use Rattle.html_clean_laws.specs.CleanLaws.{CleanStays}
use Rattle.html_clean_laws.specs.CleanNodes.{AreClean, IsClean, IsCleanHead, IsCleanText, is_some_text}

-- a text

first_is : (around : Surroundings) (made : NodesView) (s : List ℕ) →
    IsCleanText around (is_first true made) s → first_text made s ≡ s
first_is around none s clean = none_taken s (clean.unmarked refl)
first_is around (node n ns) s clean = refl

text_is : (made : NodesView) (s : List ℕ) (span : ℕ) → is_some_text s ≡ true →
    with_text made s span ≡ with_last made (text_node s span)
text_is made [] span h = absurd (false≢true h)
text_is made (c ∷ cs) span h = refl

text_again : (around : Surroundings) (made : NodesView) (s : List ℕ) (span : ℕ) →
    IsCleanText around (is_first true made) s →
    text_cleaned around made (replaced s) span ≡ with_last made (text_node s span)
text_again around made s span clean =
    ap (λ t. text_cleaned around made t span) clean.held
    ∙ pick made clean.kept (ap (λ t. with_text made t span) (first_is around made s clean)
    ∙ text_is made s span clean.some)

-- an element

head_again : (p : PolicyView) (around : Surroundings) (h : Head) → IsCleanHead p around h →
    kept_head p h ≡ h
head_again p around h clean = ap (λ bs. plain_head h.name bs h.span) clean.attrs ∙ clean.plain

stays_again : (p : PolicyView) (around : Surroundings) (h : Head) → IsCleanHead p around h →
    stays p around h ≡ true
stays_again p around h clean = rw clean.allowed
    (ap (λ k. keeps_element around k none) (head_again p around h clean) ∙ clean.kept)

module _ (p : PolicyView) (around : Surroundings) (made : NodesView) (h : Head) (kids : NodesView)
    (clean : IsCleanHead p around h) where
  abbrev content : (void : Bool) → Head → NodesView
  content void k = if void then none else nodes_cleaned p (surroundings_in k around) none kids

  content_again : (void : Bool) → (void ≡ true → kids ≡ none) →
      nodes_cleaned p (surroundings_in h around) none kids ≡ kids →
      content void (kept_head p h) ≡ kids
  content_again true empty again = sym (empty refl)
  content_again false empty again =
      ap (λ k. nodes_cleaned p (surroundings_in k around) none kids) (head_again p around h clean)
      ∙ again

  element_again : (is_void h.name ≡ true → kids ≡ none) →
      nodes_cleaned p (surroundings_in h around) none kids ≡ kids →
      node_cleaned p around made (element_node h kids) ≡ with_last made (element_node h kids)
  unfolding node_cleaned
  element_again empty again =
      skip made (not_dropped p h.name clean.allowed)
      (pick (parted (parts h) (nodes_cleaned p around (parted (parts h) made) kids))
      (stays_again p around h clean)
      (ap (λ ns. with_last made (element_node (kept_head p h) ns))
      (content_again (is_void h.name) empty again)
      ∙ ap (λ k. with_last made (element_node k kids)) (head_again p around h clean)))

mutual
  unfolding IsClean AreClean node_cleaned nodes_cleaned

  node_again : (p : PolicyView) (around : Surroundings) (made : NodesView) (n : NodeView) →
      IsClean p around (is_first true made) n → node_cleaned p around made n ≡ with_last made n
  node_again p around made (tag_node t) clean = absurd clean
  node_again p around made (text_node s span) clean = text_again around made s span clean
  node_again p around made (element_node h kids) clean =
      element_again p around made h kids clean.0 clean.1
      (nodes_again p (surroundings_in h around) none kids clean.2)
  node_again p around made (frame_node f) clean = absurd clean

  nodes_again : (p : PolicyView) (around : Surroundings) (made ns : NodesView) →
      AreClean p around (is_first true made) ns →
      nodes_cleaned p around made ns ≡ all_nodes made ns
  nodes_again p around made none clean = sym (all_first made)
  nodes_again p around made (node n ns) clean =
      ap (λ ms. nodes_cleaned p around ms ns) (node_again p around made n clean.0)
      ∙ (nodes_again p around (with_last made n) ns
      (subst (λ b. AreClean p around b ns) (sym (behind_first true made n)) clean.1)
      ∙ all_in_turn made n ns)

pub clean_stays : CleanStays
clean_stays p ns clean = nodes_again p in_body none ns clean
