use Rattle.std.proofs.Common.{false, refl, ap}
use Rattle.html_page_text.{proofs.Gathering.{page_is}, specs.PageViews.{parts_view}}
use Rattle.html_page_text.proofs.page.GatheredPage.new.Goals as goal

pub returns : goal.returns
returns c =
    page_is _ _ _ _ false false (ap parts_view c.new.ensures.items) c.new-2.ensures refl
