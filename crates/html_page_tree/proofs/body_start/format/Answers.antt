use Rattle.std.{proofs.Common.{sym, ap, ◌∙◌}, specs.Prelude.{if◌then◌else◌}}
use Rattle.html_page_stack.specs.{PageViews.{page_of}, Pages.{reconstructed}}
use Rattle.html_page_tree.specs.PageBodies.{nobr_closed}
use Rattle.html_page_tree.proofs.body_start.format.Goals as goal

pub returns : goal.returns
returns c =
    let p = page_of c.args.page.now in
    let n = c.args.name.now.tag in
    c.in_ok-close_nobr.ensures
    ∙ (ap (nobr_closed n) c.in_ok-reconstruct.ensures
    ∙ ap (λ b. if b then p else nobr_closed n (reconstructed p))
    (sym (sym c.is.ensures ∙ c.if-is.false)))
