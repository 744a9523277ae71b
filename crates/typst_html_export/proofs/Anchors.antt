-- The root of a document with anchors, and what its anchors are.
use Rattle.std.proofs.Common.{◌≡◌, ℕ, Bool, true, refl, sym, subst, ap, ◌∙◌}
use Rattle.html_dom_tree.specs.{FrameFree.{ElementIsFrameFree}, Tree.{ElementView}}
use Rattle.html_names_core.specs.Names.{stands_in}
use Rattle.html_dom_document.specs.Documents.{DocumentView, document_root}
use Rattle.html_anchors.proofs.{ChangedRoots.{root_has_anchors}, Consequences.{answers_are_first_ids}}
use Rattle.html_anchors.proofs.DocumentNames.{anchors_are_serving, anchors_are_shown}
use Rattle.html_anchors.specs.{Anchors.{element_with_anchors}, Events.{Targets}, GivenLinks.{KnownAnchorsAreShown}}
use Rattle.html_anchors.specs.{LinkAnchors.{document_anchor, document_with_new_anchors, document_targets}, Serving.{KnownAnchorsServe}}
use Rattle.html_links.specs.TreeNames.{first_ids}
use Rattle.typst_html_spaces.proofs.ReadableNodes.{anchors_keep_frame_free}
use Rattle.typst_html_export.proofs.{AnchoredRoots.{root_anchored}, LinkedRoots.{anchors_keep_atoms}}
use Rattle.typst_html_export.specs.Linked.{document_with_known_anchors, document_with_anchors, AnchorsAreFirstIds}
use Rattle.typst_html_export.specs.LinkedRoots.{HaveSameAtoms}

root_free_before : (x : Targets) (e : ElementView) → ElementIsFrameFree (element_with_anchors x e) →
    ElementIsFrameFree e
root_free_before x e f = (anchors_keep_frame_free e.1 (element_with_anchors x e).1 (root_anchored x e)).0 f

module _ (is_target : ℕ → Bool) (d : DocumentView) where
  linked_ids : AnchorsAreFirstIds (document_with_known_anchors is_target d)
  linked_ids free l n is =
      let x = document_targets is_target d in
      let e = document_root d in
      let before = root_free_before x e
      (subst ElementIsFrameFree (root_has_anchors is_target d) free) in
      subst (λ r. stands_in (first_ids r.1) n ≡ true) (sym (root_has_anchors is_target d))
      (answers_are_first_ids x e before l n is)

-- each anchor is the first `id` of an element
pub anchors_are_first_ids : (d : DocumentView) → AnchorsAreFirstIds (document_with_anchors d)
anchors_are_first_ids d = linked_ids d.introspector.is_link_target d

-- with frames it is the first `id` of an element, or a name of a frame
pub known_anchors_are_shown : (d : DocumentView) → KnownAnchorsAreShown (document_with_anchors d)
known_anchors_are_shown d =
    let is_target = d.introspector.is_link_target in
    anchors_are_shown is_target d (document_with_new_anchors is_target d) (document_anchor is_target d)
    refl refl

-- and it is the name of what serves its location
pub known_anchors_serve : (d : DocumentView) → KnownAnchorsServe (document_with_anchors d)
known_anchors_serve d =
    let is_target = d.introspector.is_link_target in
    anchors_are_serving is_target d (document_with_new_anchors is_target d) (document_anchor is_target d)
    refl refl

pub anchors_are_not_seen : (d new : DocumentView) → new ≡ document_with_anchors d →
    HaveSameAtoms (document_root new) (document_root d)
anchors_are_not_seen d new is =
    let is_target = d.introspector.is_link_target in
    subst (λ r. HaveSameAtoms r (document_root d))
    (sym (ap document_root is ∙ root_has_anchors is_target d))
    (anchors_keep_atoms (document_targets is_target d) (document_root d))
