use Rattle.std.proofs.Common.{ap, ◌∙◌}
use Rattle.html_dom_document.specs.{Documents.{DocumentView, document_root}, Views.{document_view, info_view}}
use Rattle.html_anchors.proofs.{ChangedRoots.{root_has_links}, GivenLinks.{texts_in}}
use Rattle.html_anchors.specs.{DistinctIds.{GivenLinksLeadToOne, IdsAreDistinct}, FoundAnchors.{LiveLinksLead}}
use Rattle.html_anchors.specs.{GivenLinks.{AnchorsAreTexts, GivenLinksLead}, Links.{document_hrefs, document_with_links}}
use Rattle.html_names_core.specs.Names.{stands_in}
use Rattle.html_links.specs.Indicated.{element_places}
use Rattle.html_flow_convert.specs.Views.{items_view}
use Rattle.typst_html_export.proofs.{CleanRoots.{clean_linked_exports}, FaultsInOrder.{exported}}
use Rattle.typst_html_export.proofs.{Firsts.{first_past_none, fails_by_memory_alone}, PlainRoots.{plain_documents_are_made}}
use Rattle.typst_html_export.proofs.{ReadLinks.{holds_as, lead_when_read}, SpacesInDocuments.{spaces_are_left_with_links}}
use Rattle.typst_html_export.proofs.SpacesInTexts.{spaces_are_seen}
use Rattle.typst_html_export.specs.{Assembled.{items_document_faults}, Exported.{resolved_root, root_faults}, Linked.{linked_document}}
use Rattle.typst_html_export.proofs.encode.export_linked.Goals as goal

pub returns-clause-makes : goal.returns-clause-makes
returns-clause-makes g c =
    let made = c.in_ok-made.ensures.made in
    exported (g.F.FrameWriter.drawing c.args.frames.now) c.args.options.now c.args.limit
    (items_view c.args.items.now) (items_view c.args.footnotes.now)
    (document_view c.in_ok-document.document) _ c.html_of_made.result
    (c.in_ok-document.ensures.ok ∙ ap document_with_links made.made) made.clean
    c.html_of_made.ensures.makes

pub returns-clause-plain : goal.returns-clause-plain
returns-clause-plain g c = λ are.
    let items = items_view c.args.items.now in
    let notes = items_view c.args.footnotes.now in
    first_past_none c.html_of_made.result (items_document_faults c.args.limit items notes)
    (root_faults (g.F.FrameWriter.drawing c.args.frames.now) c.args.options.now
    (resolved_root (info_view c.args.info.now) items notes))
    (plain_documents_are_made c.args.limit items notes are) (returns-clause-makes g c).fault

pub returns-clause-clean : goal.returns-clause-clean
returns-clause-clean g c = λ are clean known.
    let frames = g.F.FrameWriter.drawing c.args.frames.now in
    let options = c.args.options.now in
    let info = info_view c.args.info.now in
    let items = items_view c.args.items.now in
    let notes = items_view c.args.footnotes.now in
    let d : DocumentView = linked_document info items notes in
    let none = ap (root_faults frames options) (root_has_links d)
    ∙ clean_linked_exports frames options c.args.limit info items notes are clean known
    (stands_in (element_places (document_root d))) d.introspector.anchor in
    fails_by_memory_alone c.html_of_made.result (root_faults frames options (resolved_root info items notes))
    none (returns-clause-plain g c are)

pub returns-clause-spaces : goal.returns-clause-spaces
returns-clause-spaces g c =
    let info = info_view c.args.info.now in
    let items = items_view c.args.items.now in
    let notes = items_view c.args.footnotes.now in
    let d : DocumentView = linked_document info items notes in
    let is = ap document_root
    (c.in_ok-document.ensures.ok ∙ ap document_with_links c.in_ok-made.ensures.made.made)
    ∙ root_has_links d in
    spaces_are_seen (document_root (document_view c.in_ok-document.document)) items
    c.args.options.now.pretty c.html_of_made.result notes c.html_of_made.ensures.reads_back
    c.html_of_made.ensures.reads_indented
    (spaces_are_left_with_links info items notes (document_hrefs d)
    (document_view c.in_ok-document.document) is)

pub returns-clause-live : goal.returns-clause-live
returns-clause-live g c =
    holds_as LiveLinksLead c.html_of_made.result (document_view c.in_ok-made.made) _ _
    c.in_ok-made.ensures.made.made c.in_ok-document.ensures.ok c.in_ok-document.ensures.live

pub returns-clause-leads : goal.returns-clause-leads
returns-clause-leads g c =
    holds_as GivenLinksLead c.html_of_made.result (document_view c.in_ok-made.made) _ _
    c.in_ok-made.ensures.made.made c.in_ok-document.ensures.ok
    (c.in_ok-document.ensures.leads c.in_ok-made.ensures.shown)

pub returns-clause-read : goal.returns-clause-read
returns-clause-read g c =
    lead_when_read (g.F.FrameWriter.drawing c.args.frames.now) c.args.options.now c.html_of_made.result
    (document_view c.in_ok-made.made) (document_view c.in_ok-document.document)
    _ c.in_ok-made.ensures.made.made c.in_ok-document.ensures.ok
    (c.in_ok-document.ensures.leads c.in_ok-made.ensures.shown) c.html_of_made.ensures.makes
    c.html_of_made.ensures.reads_back c.html_of_made.ensures.reads_indented

pub returns-clause-texts : goal.returns-clause-texts
returns-clause-texts g c =
    holds_as (λ d e. AnchorsAreTexts d.introspector.anchor) c.html_of_made.result
    (document_view c.in_ok-made.made) _ _ c.in_ok-made.ensures.made.made
    c.in_ok-document.ensures.ok (texts_in c.in_ok-made.made.introspector.anchors)

pub returns-clause-distinct : goal.returns-clause-distinct
returns-clause-distinct g c = λ distinct.
    holds_as (λ d e. IdsAreDistinct e) c.html_of_made.result (document_view c.in_ok-made.made) _ _
    c.in_ok-made.ensures.made.made c.in_ok-document.ensures.ok
    (c.in_ok-document.ensures.distinct (c.in_ok-made.ensures.distinct distinct))

pub returns-clause-one : goal.returns-clause-one
returns-clause-one g c = λ distinct.
    holds_as GivenLinksLeadToOne c.html_of_made.result (document_view c.in_ok-made.made) _ _
    c.in_ok-made.ensures.made.made c.in_ok-document.ensures.ok
    (c.in_ok-document.ensures.one c.in_ok-made.ensures.shown
    (c.in_ok-made.ensures.distinct distinct))
