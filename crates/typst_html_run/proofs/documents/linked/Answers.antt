use Rattle.std.proofs.Common.{◌≡◌, [], ap, ◌∙◌}
use Rattle.html_dom_document.specs.Views.{document_view}
use Rattle.html_anchors.specs.{FoundAnchors.{document_dead_links}, Links.{document_with_links}}
use Rattle.typst_html_encode.specs.FrameWriters.{no_frames}
use Rattle.typst_html_export.{proofs.FaultsInOrder.{exported}, specs.Assembled.{items_document_faults}}
use Rattle.typst_html_run.{proofs.Heads.{head_list}, specs.DocumentAnswers.{made_document}}
use Rattle.typst_html_json.specs.Spelling.{spelling_view}
use Rattle.typst_html_run.proofs.documents.linked.Goals as goal

pub returns-clause-text : goal.returns-clause-text
returns-clause-text c =
    let s = spelling_view c.args.document.now in
    let clean : items_document_faults c.args.limit s.items s.footnotes ≡ [] =
    rw (← c.deref.ensures.value, ← c.deref-3.ensures.value) c.in_ok-made.ensures.made.clean in
    let same : document_view c.in_ok-made.made ≡ made_document s =
    rw (
      head_list c.args.document.now.head.items,
      ← c.deref.ensures.value,
      ← c.deref-2.ensures.value,
      ← c.deref-3.ensures.value,
    ) c.in_ok-made.ensures.made.made in
    rw c.with_dead_links.ensures.text
    (exported no_frames c.args.options.now c.args.limit s.items s.footnotes
    (document_view c.in_ok-document.document) _ c.html_of_made.result
    (c.in_ok-document.ensures.ok ∙ ap document_with_links same) clean c.html_of_made.ensures)

pub returns-clause-dead : goal.returns-clause-dead
returns-clause-dead c =
    let s = spelling_view c.args.document.now in
    let same : document_view c.in_ok-made.made ≡ made_document s =
    rw (
      head_list c.args.document.now.head.items,
      ← c.deref.ensures.value,
      ← c.deref-2.ensures.value,
      ← c.deref-3.ensures.value,
    ) c.in_ok-made.ensures.made.made in
    rw (← (c.in_ok-dead.ensures.dead ∙ ap document_dead_links same)) c.with_dead_links.ensures.dead
