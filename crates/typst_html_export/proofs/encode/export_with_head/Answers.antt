use Rattle.std.proofs.Common.{◌≡◌, true, false, [], Some, refl, ap, subst, map, Result, Ok, Err, IfOk, OnOk, String, Global}
use Rattle.std.proofs.lemmas.Result.{err_from_is_err_and}
use Rattle.html_dom_document.specs.{Documents.{document_root}, Views.{document_view, info_view}}
use Rattle.html_dom_tree.specs.{FrameFree.{ElementIsFrameFree}, PlainTree.{element_normal}, Tree.{ElementView}}
use Rattle.html_dom_tree.specs.Views.{node_view, text_view}
use Rattle.html_flow_convert.specs.Views.{items_view}
use Rattle.typst_html_encode.specs.ExportFaults as writing
use Rattle.typst_html_encode.specs.{FrameWriters.{Frames}, Indented.{element_layout, ElementEndsWell}, Reader.{read}}
use Rattle.typst_html_encode.specs.declared.{fault.ExportFault.{ExportFault}, options.HtmlOptions.{HtmlOptions}}
use Rattle.typst_html_export.proofs.{CleanRoots.{clean_exports_with_head}, FaultsInOrder.{exported}}
use Rattle.typst_html_export.proofs.{Firsts.{memory_first, first_past_none, fails_by_memory_alone}, HeadNodes.{root_can_be_read}}
use Rattle.typst_html_export.proofs.{PlainRoots.{plain_documents_are_made}, SpacesInDocuments.{spaces_are_shown}}
use Rattle.typst_html_export.proofs.SpacesInTexts.{spaces_are_seen_if}
use Rattle.typst_html_export.specs.{Assembled.{items_document_faults}, Exported.{linked_root_with_head, root_faults}}
use Rattle.typst_html_export.specs.Linked.{linked_document_with_head}
use Rattle.typst_html_export.proofs.encode.export_with_head.Goals as goal

pub returns-clause-makes : goal.returns-clause-makes
returns-clause-makes g c =
    let made = c.in_ok-document.ensures.made in
    exported (g.F.FrameWriter.drawing c.args.frames.now) c.args.options.now c.args.limit
    (items_view c.args.items.now) (items_view c.args.footnotes.now)
    (document_view c.in_ok-document.document) _ c.html_of_made.result made.made made.clean
    c.html_of_made.ensures.makes

pub returns-in_err-document-clause-plain : goal.returns-in_err-document-clause-plain
returns-in_err-document-clause-plain g c = λ are.
    let failed = err_from_is_err_and c.from_residual.result c.from_residual.ensures.1 in
    rw (failed.1, failed.2) (memory_first _ _ (c.in_err-document.ensures.plain are))

pub returns-clause-plain : goal.returns-clause-plain
returns-clause-plain g c = λ are.
    let items = items_view c.args.items.now in
    let notes = items_view c.args.footnotes.now in
    first_past_none c.html_of_made.result (items_document_faults c.args.limit items notes) _
    (plain_documents_are_made c.args.limit items notes are) (returns-clause-makes g c).fault

pub returns-clause-reads_back : goal.returns-clause-reads_back
returns-clause-reads_back g c =
    subst (λ root. c.args.options.now.pretty ≡ false → ElementIsFrameFree root →
    IfOk c.html_of_made.result (λ text. read (text_view text) ≡ Some (element_normal root)))
    (ap document_root c.in_ok-document.ensures.made.made) c.html_of_made.ensures.reads_back

pub returns-clause-reads_indented : goal.returns-clause-reads_indented
returns-clause-reads_indented g c =
    subst (λ root. c.args.options.now.pretty ≡ true → ElementIsFrameFree root →
    ElementEndsWell true root → IfOk c.html_of_made.result
    (λ text. read (text_view text) ≡ Some (element_normal (element_layout root))))
    (ap document_root c.in_ok-document.ensures.made.made) c.html_of_made.ensures.reads_indented

pub returns-in_err-document-clause-clean : goal.returns-in_err-document-clause-clean
returns-in_err-document-clause-clean g c = λ are clean known own.
    let failed = err_from_is_err_and c.from_residual.result c.from_residual.ensures.1 in
    rw (failed.1, failed.2) (c.in_err-document.ensures.plain are)

pub returns-clause-clean : goal.returns-clause-clean
returns-clause-clean g c = λ are clean known own.
    let frames = g.F.FrameWriter.drawing c.args.frames.now in
    let info = info_view c.args.info.now in
    let head = map node_view c.args.head.now in
    let items = items_view c.args.items.now in
    let notes = items_view c.args.footnotes.now in
    fails_by_memory_alone c.html_of_made.result
    (root_faults frames c.args.options.now (linked_root_with_head info head items notes))
    (clean_exports_with_head frames c.args.options.now c.args.limit info items notes are clean known
    head own)
    (returns-clause-plain g c are)

-- whether a text was written, so that its root has no fault
if_written : (frames : Frames) (options : HtmlOptions) (root : ElementView)
    (r : Result (String Global) ExportFault) (P : Type 0) →
    OnOk r (writing.document_faults frames options root ≡ []) →
    (writing.document_faults frames options root ≡ [] → P) → OnOk r P
if_written frames options root (Ok text) P none more = more none
if_written frames options root (Err e) P none more = tt

pub returns-clause-spaces : goal.returns-clause-spaces
returns-clause-spaces g c = λ own.
    let frames = g.F.FrameWriter.drawing c.args.frames.now in
    let options = c.args.options.now in
    let info = info_view c.args.info.now in
    let head = map node_view c.args.head.now in
    let items = items_view c.args.items.now in
    let notes = items_view c.args.footnotes.now in
    let root = linked_root_with_head info head items notes in
    let r = c.html_of_made.result in
    let clean : OnOk r (writing.document_faults frames options root ≡ []) =
    subst (λ d. OnOk r (writing.document_faults frames options (document_root d) ≡ []))
    c.in_ok-document.ensures.made.made c.html_of_made.ensures.makes.clean in
    spaces_are_seen_if root items options.pretty r notes
    (returns-clause-reads_back g c, returns-clause-reads_indented g c)
    (if_written frames options root r _ clean
    (λ none. root_can_be_read info head items notes frames options own none))
    (spaces_are_shown info head items notes (linked_document_with_head info head items notes) refl)
