-- What a cleaner leaves is clean.
use Rattle.std.proofs.Common.{◌≡◌, ℕ, Bool, true, false, not, ◌&&◌, List, [], ◌∷◌, refl, sym, ◌∙◌}
use Rattle.std.proofs.lemmas.Bool.{false≢true}
use Rattle.std.specs.Prelude.{if◌then◌else◌}
use Rattle.html_names_core.specs.Kinds.{is_void}
use Rattle.html_dom_tree.specs.Tree.{Head, NodeView, tag_node, text_node, element_node, frame_node, NodesView, none, node, with_last}
use Rattle.html_page_nesting.specs.{Kept.{in_body, keeps_text}, Walks.{surroundings_in}}
use Rattle.html_page_nesting.specs.declared.surroundings.Surroundings.{Surroundings}
use Rattle.typst_html_nesting_laws.specs.FragmentsStay.{begins_marked}
use Rattle.html_clean_values.specs.Replaced.{replaced, replaced_char}
use Rattle.html_clean_values.proofs.Replacing.{replaced_once}
use Rattle.html_clean_policy.proofs.KeptAttrs.{kept_attrs_stay}
use Rattle.html_clean_policy.specs.{Policies.{IsSound, PolicyView, allows, is_dropped}}
use Rattle.html_clean_nodes.specs.Cleaned.{end_apart, first_text, kept_head, node_cleaned, nodes_cleaned, parted, parts, stays, with_text, without_marks}
use Rattle.html_clean_laws.proofs.{Lists.{clean_last, is_first}, Texts.{unmarked_begins, unmarked_held, unmarked_stays}}
use Rattle.html_clean_laws.specs.CleanLaws.{CleanedIsClean}
use Rattle.html_clean_laws.specs.CleanNodes.{AreClean, IsClean, IsCleanHead}

both_pass : (a b : Bool) → a && b ≡ true → (a ≡ true) × (b ≡ true)
both_pass true b h = (refl, h)
both_pass false b h = absurd (false≢true h)

module _ (p : PolicyView) (sound : IsSound p) (around : Surroundings) where
  abbrev Clean : NodesView → Type 0
  Clean ns = AreClean p around true ns

  -- a text

  with_clean : (made : NodesView) (s : List ℕ) (span : ℕ) → Clean made → replaced s ≡ s →
      keeps_text around s ≡ true → (is_first true made ≡ true → begins_marked s ≡ false) →
      Clean (with_text made s span)
  unfolding IsClean
  with_clean made [] span clean held kept unmarked = clean
  with_clean made (c ∷ cs) span clean held kept unmarked =
      clean_last p around true made (text_node (c ∷ cs) span) clean
      (record { some = refl; held = held; kept = kept; unmarked = unmarked })

  put_clean : (made : NodesView) (s : List ℕ) (span : ℕ) → Clean made → replaced s ≡ s →
      keeps_text around s ≡ true → Clean (with_text made (first_text made s) span)
  put_clean none s span clean held kept = with_clean none (without_marks s) span clean
      (unmarked_held s held) (unmarked_stays around s kept) (λ e. unmarked_begins s)
  put_clean (node n ns) s span clean held kept =
      with_clean (node n ns) s span clean held kept (λ e. absurd (false≢true e))

  text_by : (kept : Bool) (made : NodesView) (s : List ℕ) (span : ℕ) → Clean made →
      replaced s ≡ s → keeps_text around s ≡ kept →
      Clean (if kept then with_text made (first_text made s) span else made)
  text_by true made s span clean held kept = put_clean made s span clean held kept
  text_by false made s span clean held kept = clean

  -- a line feed

  parted_by : (apart ended : Bool) (made : NodesView) → Clean made → end_apart made ≡ ended →
      Clean (if apart && not ended then with_last made (text_node (10 ∷ []) 0) else made)
  unfolding IsClean replaced_char
  parted_by false ended made clean e = clean
  parted_by true true made clean e = clean
  parted_by true false none clean e = absurd (false≢true (sym e))
  parted_by true false (node n ns) clean e =
      clean_last p around true (node n ns) (text_node (10 ∷ []) 0) clean (record {
        some = refl;
        held = refl;
        kept = refl;
        unmarked = λ e. absurd (false≢true e);
      })

  parted_clean : (apart : Bool) (made : NodesView) → Clean made → Clean (parted apart made)
  parted_clean apart made clean = parted_by apart (end_apart made) made clean refl

  -- an element

  head_clean : (h : Head) → stays p around h ≡ true → IsCleanHead p around (kept_head p h)
  head_clean h stay =
      let both = both_pass (allows p h.name) _ stay in
      record {
        plain = refl;
        allowed = both.0;
        attrs = kept_attrs_stay p h.name h.attrs sound;
        kept = both.1;
      }

  -- what is made in it is clean, whatever its surroundings are
  abbrev Inner : NodesView → Type 0
  Inner kids = (inside : Surroundings) (made : NodesView) → AreClean p inside true made →
      AreClean p inside true (nodes_cleaned p inside made kids)

  element_by : (dropped stay void : Bool) (made : NodesView) (h : Head) (kids : NodesView) →
      stays p around h ≡ stay → is_void h.name ≡ void → Inner kids → Clean made →
      Clean (if dropped then made else (if stay
      then with_last made (element_node (kept_head p h) (if void then none
      else nodes_cleaned p (surroundings_in (kept_head p h) around) none kids))
      else parted (parts h) (nodes_cleaned p around (parted (parts h) made) kids)))
  unfolding IsClean AreClean
  element_by true stay void made h kids s v inner clean = clean
  element_by false false void made h kids s v inner clean = parted_clean (parts h) _
      (inner around _ (parted_clean (parts h) made clean))
  element_by false true true made h kids s v inner clean =
      clean_last p around true made (element_node (kept_head p h) none) clean
      (head_clean h s, λ e. refl, tt)
  element_by false true false made h kids s v inner clean =
      let inside = surroundings_in (kept_head p h) around in
      clean_last p around true made
      (element_node (kept_head p h) (nodes_cleaned p inside none kids)) clean
      (head_clean h s, λ e. absurd (false≢true (sym v ∙ e)), inner inside none tt)

mutual
  unfolding AreClean node_cleaned nodes_cleaned

  node_clean : (p : PolicyView) → IsSound p → (around : Surroundings) (made : NodesView)
      (n : NodeView) → AreClean p around true made →
      AreClean p around true (node_cleaned p around made n)
  node_clean p sound around made (tag_node t) clean = clean
  node_clean p sound around made (text_node s span) clean =
      text_by p sound around (keeps_text around (replaced s)) made (replaced s) span clean
      (replaced_once s) refl
  node_clean p sound around made (element_node h kids) clean =
      element_by p sound around (is_dropped h.name) (stays p around h) (is_void h.name) made h kids
      refl refl (λ inside ms c. nodes_clean p sound inside ms kids c) clean
  node_clean p sound around made (frame_node f) clean = clean

  nodes_clean : (p : PolicyView) → IsSound p → (around : Surroundings) (made ns : NodesView) →
      AreClean p around true made → AreClean p around true (nodes_cleaned p around made ns)
  nodes_clean p sound around made none clean = clean
  nodes_clean p sound around made (node n ns) clean =
      nodes_clean p sound around (node_cleaned p around made n) ns
      (node_clean p sound around made n clean)

pub cleaned_is_clean : CleanedIsClean
unfolding AreClean
cleaned_is_clean p ns sound = nodes_clean p sound in_body none ns tt
