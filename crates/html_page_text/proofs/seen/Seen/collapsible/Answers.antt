use Rattle.std.proofs.Common.{◌≡◌, sym, ap, ◌∙◌}
use Rattle.html_dom_shown.specs.Collapsing.{collapsible}
use Rattle.html_page_text.proofs.{Gathering.{seen_of}, Held.{none_held}}
use Rattle.html_page_text.specs.{Gathering.{with_pieces, blank, step}, PageViews.{before_view, page_view}}
use Rattle.html_page_text.specs.declared.seen.Before.TheVariants.{Support}
use Rattle.html_page_text.proofs.seen.Seen.collapsible.Goals as goal

pub returns-in-Support : goal.returns-in-Support
unfolding with_pieces
returns-in-Support c =
    let p = page_view c.args.self.now.page in
    let old : c.args.self.now.before ≡ Support = c.in-Support.is in
    ap (λ l. seen_of p (blank l)) c.new.ensures
    ∙ ap (λ b. step (seen_of p (before_view b)) (collapsible c.args.c)) (sym old)

pub returns-in_default : goal.returns-in_default
returns-in_default c =
    let old = c.args.self.now in
    none_held (page_view old.page) old.before c.args.c c.in_default.not-Support
