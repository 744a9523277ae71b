use Rattle.std.proofs.Common.{ap, subst}
use Rattle.html_page_stack.specs.{Endings.{Turns}, PageViews.{page_of, start_of}}
use Rattle.html_page_tree.specs.PageBodies.{in_body_begun}
use Rattle.html_page_tree.proofs.body_start.in_body_start.Goals as goal

pub returns : goal.returns
returns c = subst (λ x. Turns c.begin_in_body.result x (page_of c.begin_in_body.new.page))
    (ap (in_body_begun (start_of c.args.start)) c.bar_by_tag.ensures) c.begin_in_body.ensures
