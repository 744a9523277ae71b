use Rattle.std.proofs.Common.{true}
use Rattle.html_dom_shown.specs.Collapsing.{thing}
use Rattle.html_page_text.{proofs.Gathering.{one_behind, seen_is}, specs.Gathering.{released}, specs.PageViews.{before_view, page_view}}
use Rattle.html_page_text.proofs.seen.Seen.object.Goals as goal

pub returns : goal.returns
returns c =
    let old = c.args.self.now in
    seen_is _ _ _ _ (one_behind (page_view old.page) _ _ (released true (before_view old.before))
    (thing c.args.tag.now) c.in_ok-supported.ensures.page c.in_ok-push_object.ensures)
    c.in_ok-supported.ensures.before
