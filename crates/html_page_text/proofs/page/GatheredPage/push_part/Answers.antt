use Rattle.std.proofs.Common.{[], ◌∷◌, ◌++◌, refl, ap, ◌∙◌}
use Rattle.html_page_text.{proofs.Gathering.{page_is}, proofs.Parts.{one_part}, specs.PageViews.{part_view}}
use Rattle.html_page_text.proofs.page.GatheredPage.push_part.Goals as goal

pub returns : goal.returns
returns c =
    let part = part_view c.args.part in
    page_is _ _ _ _ _ _ (one_part c.end_text.new.self.parts.items c.push.new.self.items c.args.part
    part c.in_ok-push.ensures.items refl ∙ ap (λ l. l ++ part ∷ []) c.in_ok-end_text.ensures.parts)
    c.in_ok-end_text.ensures.ended c.in_ok-end_text.ensures.same
