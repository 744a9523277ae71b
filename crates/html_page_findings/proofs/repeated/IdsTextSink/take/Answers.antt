use Rattle.std.proofs.Common.{◌≡◌, true, false, ap, ◌∙◌, rules}
use Rattle.html_names_core.specs.Texts.{text_view}
use Rattle.html_links.specs.UsedNames.{used_in}
use Rattle.html_page_findings.{proofs.Finds.{passed_again, passed_first}, specs.PlacedTexts.{Placed}, specs.RepeatedIds.{repeated}}
use Rattle.html_page_findings.proofs.repeated.IdsTextSink.take.Goals as goal

pub returns-in_ok-take : goal.returns-in_ok-take
returns-in_ok-take g c rest =
    let ids = c.args.self.now in
    let used = used_in ids.passed in
    let here : Placed = (c.args.path.now, text_view c.args.text) in
    let passed : used (text_view c.args.text) ≡ true = search rules in
    c.in_ok-take.ensures (repeated used rest)
    ∙ ap (g.S.TextSink.made_with ids.repeated) (passed_again used here rest passed)

pub returns-in_ok-put_in_use : goal.returns-in_ok-put_in_use
returns-in_ok-put_in_use g c rest =
    let ids = c.args.self.now in
    let used = used_in ids.passed in
    let here : Placed = (c.args.path.now, text_view c.args.text) in
    let new : used (text_view c.args.text) ≡ false = search rules in
    let made = g.S.TextSink.made_with ids.repeated in
    ap (λ u. made (repeated u rest)) c.in_ok-put_in_use.ensures.ok
    ∙ ap made (passed_first used here rest new)
