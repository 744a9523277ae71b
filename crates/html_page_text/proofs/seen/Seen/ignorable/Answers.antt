use Rattle.std.proofs.Common.{◌≡◌, sym, ap, ◌∙◌}
use Rattle.html_dom_shown.specs.Collapsing.{ignorable}
use Rattle.html_page_text.proofs.{Gathering.{seen_of}, Held.{ignorable_seen}}
use Rattle.html_page_text.specs.{Gathering.{with_pieces, blank, step}, PageViews.{before_view, page_view}}
use Rattle.html_page_text.specs.declared.seen.Before.TheVariants.{Blank}
use Rattle.html_page_text.proofs.seen.Seen.ignorable.Goals as goal

pub returns-in-Blank : goal.returns-in-Blank
unfolding with_pieces
returns-in-Blank c =
    let p = page_view c.args.self.now.page in
    let old : c.args.self.now.before ≡ Blank c.in-Blank.later = c.in-Blank.is in
    ap (λ l. seen_of p (blank l)) c.in_ok-push.ensures.added
    ∙ ap (λ b. step (seen_of p (before_view b)) (ignorable c.args.c)) (sym old)

pub returns : goal.returns
returns c =
    let old = c.args.self.now in
    ignorable_seen (page_view old.page) (page_view c.push_char.new.self) old.before c.args.c
    c.in_default.not-Blank c.in_ok-push_char.ensures
