-- The names of a document's anchors.
use Rattle.std.proofs.Common.{◌≡◌, ℕ, Bool, true, Option, ap, sym, ◌∙◌, subst}
use Rattle.html_dom_tree.specs.Tree.{ElementView}
use Rattle.html_names_core.specs.Names.{stands_in}
use Rattle.html_dom_document.specs.Documents.{DocumentView, document_root}
use Rattle.html_links.specs.{Distinct.{are_distinct}, TreeNames.{Name, element_names, shown_names}}
use Rattle.html_anchors.proofs.{ChangedRoots.{root_has_anchors}, Counting.{anchors_stay_distinct}, Freshes.{made_in_walk}}
use Rattle.html_anchors.proofs.{Serving.{anchors_serve}, Showing.{answers_are_shown}}
use Rattle.html_anchors.specs.{AnchorWalk.{Walked, element_walk}, DistinctIds.{IdsAreDistinct}}
use Rattle.html_anchors.specs.DocumentNames.{AnchorsAreNew, AnchorsAreShown}
use Rattle.html_anchors.specs.{LinkAnchors.{document_targets, document_with_new_anchors, document_anchor}, NumberedNames.{IsBounded}}
use Rattle.html_anchors.specs.Serving.{AreServing, serving_name}

pub anchors_are_new : (is_target : ℕ → Bool) (d : DocumentView) (w : Walked) →
    w ≡ element_walk (document_targets is_target d) (document_root d) → IsBounded w.1.used →
    AnchorsAreNew is_target d
anchors_are_new is_target d w whole b =
    made_in_walk (document_targets is_target d) (document_root d)
    (subst IsBounded (ap (λ (v : Walked). v.1.used) whole) b)

pub anchors_are_shown : (is_target : ℕ → Bool) (d new : DocumentView) (anchor : ℕ → Option Name) →
    new ≡ document_with_new_anchors is_target d → anchor ≡ document_anchor is_target d →
    AnchorsAreShown anchor new
anchors_are_shown is_target d new anchor new_is anchor_is l n e =
    let top = ap document_root new_is ∙ root_has_anchors is_target d in
    subst (λ (r : ElementView). stands_in (shown_names r.1) n ≡ true) (sym top)
    (answers_are_shown (document_targets is_target d) (document_root d) l n
    (sym (ap (λ f. f l) anchor_is) ∙ e))

pub anchors_are_serving : (is_target : ℕ → Bool) (d new : DocumentView)
    (anchor : ℕ → Option Name) → new ≡ document_with_new_anchors is_target d →
    anchor ≡ document_anchor is_target d → AreServing is_target anchor new
anchors_are_serving is_target d new anchor new_is anchor_is =
    let x = document_targets is_target d in
    subst (AreServing is_target anchor) (sym new_is) (λ l.
    ap (λ f. f l) anchor_is
    ∙ (anchors_serve x (document_root d) l
    ∙ ap (λ (r : ElementView). serving_name x r.1 l) (sym (root_has_anchors is_target d))))

pub ids_stay_distinct : (is_target : ℕ → Bool) (d new : DocumentView) →
    new ≡ document_with_new_anchors is_target d → AnchorsAreNew is_target d → IdsAreDistinct d →
    IdsAreDistinct new
ids_stay_distinct is_target d new new_is made_new distinct =
    ap (λ (v : DocumentView). are_distinct (element_names (document_root v))) new_is
    ∙ (ap (λ (e : ElementView). are_distinct (element_names e)) (root_has_anchors is_target d)
    ∙ anchors_stay_distinct (document_targets is_target d) (document_root d) made_new distinct)
