use Rattle.std.proofs.Common.{false, sym, ap, ◌∙◌}
use Rattle.html_page_text.{proofs.Held.{none_released}, specs.Gathering.{with_pieces}, specs.PageViews.{before_view, page_view}}
use Rattle.html_page_text.proofs.seen.Seen.unsupported.Goals as goal

pub returns-in_default : goal.returns-in_default
unfolding with_pieces
returns-in_default c =
    let old = c.args.self.now in
    record {
      page = ap (with_pieces (page_view old.page)) (sym (none_released false old.before
          (λ x e. c.in_default.not-Blank x (c.replace.ensures.value ∙ e))));
      before = ap before_view c.replace.ensures.after;
    }
