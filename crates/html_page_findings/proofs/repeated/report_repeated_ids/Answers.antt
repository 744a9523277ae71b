use Rattle.std.proofs.Common.{map, ap, ◌∙◌}
use Rattle.html_names_core.specs.{Names.{stands_in}, Texts.{text_view}}
use Rattle.html_dom_tree.specs.Views.{element_view}
use Rattle.html_page_findings.specs.RepeatedIds.{placed_ids, repeated}
use Rattle.html_page_findings.proofs.repeated.report_repeated_ids.Goals as goal

pub returns-in-Ok : goal.returns-in-Ok
unfolding repeated
returns-in-Ok g c =
    let ids = placed_ids (element_view c.args.root.now) in
    c.in-Ok.ensures
    ∙ ap (λ keys. g.S.TextSink.made_with c.args.sink (repeated (stands_in (map text_view keys)) ids))
    c.new.ensures.empty
