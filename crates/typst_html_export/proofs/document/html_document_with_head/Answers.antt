use Rattle.std.proofs.{Common.{◌∙◌, ap, map, sym, subst}, lemmas.Result.{err_from_is_err_and}}
use Rattle.html_dom_tree.specs.Views.{node_view}
use Rattle.html_dom_document.specs.{Documents.{document_root}, Views.{document_view, info_view}}
use Rattle.html_anchors.specs.{DistinctIds.{IdsAreDistinct}, GivenLinks.{KnownAnchorsAreShown}, Serving.{KnownAnchorsServe}}
use Rattle.html_flow_convert.specs.Views.{items_view}
use Rattle.typst_html_export.proofs.Anchors.{anchors_are_first_ids, anchors_are_not_seen, known_anchors_are_shown, known_anchors_serve}
use Rattle.typst_html_export.proofs.{Firsts.{memory_alone}, PlainRoots.{plain_documents_are_made}}
use Rattle.typst_html_export.proofs.SpacesInDocuments.{spaces_are_left_with_head, spaces_are_shown}
use Rattle.typst_html_export.specs.{Assembled.{items_document_faults}, Linked.{AnchorsAreFirstIds, document_with_anchors}}
use Rattle.typst_html_export.specs.LinkedRoots.{HaveSameAtoms}
use Rattle.typst_html_export.proofs.document.html_document_with_head.Goals as goal

pub returns-clause-anchors : goal.returns-clause-anchors
returns-clause-anchors c =
    subst (λ d. AnchorsAreFirstIds d) (sym c.in_ok-with_anchors.ensures.made)
    (anchors_are_first_ids (document_view c.in_ok-document.document))

pub returns-clause-shown : goal.returns-clause-shown
returns-clause-shown c =
    subst KnownAnchorsAreShown (sym c.in_ok-with_anchors.ensures.made)
    (known_anchors_are_shown (document_view c.in_ok-document.document))

pub returns-clause-serves : goal.returns-clause-serves
returns-clause-serves c =
    subst KnownAnchorsServe (sym c.in_ok-with_anchors.ensures.made)
    (known_anchors_serve (document_view c.in_ok-document.document))

pub returns-clause-unseen : goal.returns-clause-unseen
returns-clause-unseen c =
    subst (λ d. HaveSameAtoms (document_root (document_view c.in_ok-with_anchors.field-0))
    (document_root d)) c.in_ok-document.ensures.made.made
    (anchors_are_not_seen (document_view c.in_ok-document.document) _
    c.in_ok-with_anchors.ensures.made)

pub returns-clause-distinct : goal.returns-clause-distinct
returns-clause-distinct c = λ distinct. c.in_ok-with_anchors.ensures.distinct
    (subst IdsAreDistinct (sym c.in_ok-document.ensures.made.made) distinct)

pub returns-in_err-document-clause-plain : goal.returns-in_err-document-clause-plain
returns-in_err-document-clause-plain c = λ are.
    let items = items_view c.args.items.now in
    let notes = items_view c.args.footnotes.now in
    let failed = err_from_is_err_and c.from_residual.result c.from_residual.ensures.1 in
    rw (failed.1, failed.2) (memory_alone _ (items_document_faults c.args.limit items notes)
    (plain_documents_are_made c.args.limit items notes are) c.in_err-document.ensures.made.fault)

pub returns-clause-spaces : goal.returns-clause-spaces
returns-clause-spaces c =
    spaces_are_left_with_head (info_view c.args.info.now) (map node_view c.args.head.now)
    (items_view c.args.items.now) (items_view c.args.footnotes.now) _
    (c.in_ok-with_anchors.ensures.made
    ∙ ap document_with_anchors c.in_ok-document.ensures.made.made)

pub returns-clause-visible : goal.returns-clause-visible
returns-clause-visible c =
    spaces_are_shown (info_view c.args.info.now) (map node_view c.args.head.now)
    (items_view c.args.items.now) (items_view c.args.footnotes.now) _
    (c.in_ok-with_anchors.ensures.made
    ∙ ap document_with_anchors c.in_ok-document.ensures.made.made)
