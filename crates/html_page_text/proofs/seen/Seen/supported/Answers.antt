use Rattle.std.proofs.Common.{◌≡◌, true, map, sym, ap, ◌∙◌}
use Rattle.html_dom_shown.specs.Collapsing.{char}
use Rattle.html_page_text.{proofs.Held.{none_released}, specs.Gathering.{with_pieces, released}, specs.PageViews.{before_view, page_view}}
use Rattle.html_page_text.specs.declared.seen.Before.TheVariants.{Blank}
use Rattle.html_page_text.proofs.seen.Seen.supported.Goals as goal

pub returns-in_ok-push_text-clause-page : goal.returns-in_ok-push_text-clause-page
unfolding with_pieces
returns-in_ok-push_text-clause-page c =
    let later = c.in-Blank.later in
    let old : c.args.self.now.before ≡ Blank later = sym c.replace.ensures.value ∙ c.in-Blank.is in
    c.in_ok-push_text.ensures
    ∙ (ap (λ p. with_pieces p (map char later)) c.in_ok-push_char.ensures
    ∙ ap (λ b. with_pieces (page_view c.args.self.now.page) (released true (before_view b))) (sym old))

pub returns-in_default : goal.returns-in_default
unfolding with_pieces
returns-in_default c =
    let old = c.args.self.now in
    record {
      page = ap (with_pieces (page_view old.page)) (sym (none_released true old.before
          (λ x e. c.in_default.not-Blank x (c.replace.ensures.value ∙ e))));
      before = ap before_view c.replace.ensures.after;
    }
