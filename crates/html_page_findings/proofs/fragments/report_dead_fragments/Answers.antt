use Rattle.std.{proofs.Common.{◌≡◌, List, [], false, refl, ap, sym, ◌∙◌}, specs.Prelude.{if◌then◌else◌}}
use Rattle.html_names_core.specs.Names.{stands_in}
use Rattle.html_dom_tree.specs.Views.{element_view}
use Rattle.html_links.specs.{Bases.{base_is_elsewhere}, InDocument.{document_places}}
use Rattle.html_page_findings.specs.{Fragments.{dead_among, fragment_links}, PlacedTexts.{Placed}}
use Rattle.html_page_findings.proofs.fragments.report_dead_fragments.Goals as goal

pub returns-then-base_is_elsewhere : goal.returns-then-base_is_elsewhere
returns-then-base_is_elsewhere g c =
    rw (sym c.base_is_elsewhere.ensures ∙ c.if-base_is_elsewhere.true) refl

pub returns-in-Ok-report_texts : goal.returns-in-Ok-report_texts
returns-in-Ok-report_texts g c =
    let e = element_view c.args.root.now in
    let links = fragment_links e in
    let made = g.S.TextSink.made_with c.args.sink in
    let dead : List Placed = dead_among (stands_in (document_places e)) links in
    let here : base_is_elsewhere e ≡ false =
    sym c.base_is_elsewhere.ensures ∙ c.if-base_is_elsewhere.false in
    let all : made dead ≡ made (if base_is_elsewhere e then [] else dead) = rw here refl in
    c.in-Ok-report_texts.ensures
    ∙ (ap (λ is_place. made (dead_among is_place links)) c.in-Ok.ensures ∙ all)
