use Rattle.std.proofs.Common.{ap, ◌∙◌}
use Rattle.html_page_stack.specs.PageViews.{start_of}
use Rattle.html_page_tree.specs.PageBodies.{formatted, inserted}
use Rattle.html_page_tree.proofs.body_start.start_in_body.Goals as goal

pub returns : goal.returns
returns c =
    let t = start_of c.args.start in
    c.in_ok-insert.ensures ∙ ap (inserted t)
    (c.in_ok-format.ensures ∙ ap (formatted t.name) c.in_ok-close_before.ensures)
