use Rattle.std.proofs.Common.{false}
use Rattle.html_dom_shown.specs.Collapsing.{line}
use Rattle.html_page_text.{proofs.Gathering.{one_behind, seen_is}, specs.Gathering.{released}, specs.PageViews.{before_view, page_view}}
use Rattle.html_page_text.proofs.seen.Seen.line_break.Goals as goal

pub returns : goal.returns
returns c =
    let old = c.args.self.now in
    seen_is _ _ _ _ (one_behind (page_view old.page) _ _ (released false (before_view old.before))
    line c.in_ok-unsupported.ensures.page c.in_ok-push_line_break.ensures)
    c.in_ok-unsupported.ensures.before
