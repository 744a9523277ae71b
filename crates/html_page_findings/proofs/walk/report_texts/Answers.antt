use Rattle.std.proofs.{Common.{[], ap, ◌∙◌}, lemmas.List.{append-nil}}
use Rattle.html_dom_tree.specs.Views.{element_view}
use Rattle.html_page_findings.specs.{PlacedTexts.{document_placed}, WantedTexts.{kind_of}}
use Rattle.html_page_findings.proofs.walk.report_texts.Goals as goal

pub returns-in-Ok : goal.returns-in-Ok
returns-in-Ok g c =
    let placed = document_placed (kind_of c.args.wanted) (element_view c.args.root.now) in
    c.in-Ok.ensures [] ∙ ap (g.S.TextSink.made_with c.args.sink) (append-nil placed)
