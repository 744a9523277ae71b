use Rattle.std.proofs.Common.{arith, sym, ◌∙◌}
use Rattle.html_page_stack.{proofs.OpenFormats.{opened_within}, specs.PageViews.{format_of, stack_of}}
use Rattle.html_page_stack.proofs.adoption.Adoption.entry_within.Goals as goal

pub overflow_add-index-3 : goal.overflow_add-index-3
overflow_add-index-3 c =
    let within = opened_within (format_of c.args.format) (stack_of c.args.self.stack.now)
    (sym c.is_open.ensures ∙ c.if-not-is_open.false) in
    omega (arith, within, c.requires.order, c.requires.few, c.requires.made)
