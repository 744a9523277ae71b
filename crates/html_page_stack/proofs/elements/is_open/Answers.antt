use Rattle.std.proofs.Common.{arith, sym, ◌∙◌}
use Rattle.html_page_stack.{proofs.OpenFormats.{open_here, open_past}, specs.PageViews.{format_of}}
use Rattle.html_page_stack.proofs.elements.is_open.Goals as goal

pub returns-then-elements-format : goal.returns-then-elements-format
returns-then-elements-format c = sym (open_past (format_of c.args.format.now) c.args.elements.now
    (omega (arith, c.if-elements-format.true)))

pub returns : goal.returns
returns c = c.is_opened.ensures
    ∙ sym (open_here (format_of c.args.format.now) c.args.elements.now
    c.index-elements-format.result (omega (arith, c.if-elements-format.false))
    c.index-elements-format.is)
