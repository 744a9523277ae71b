use Rattle.std.proofs.Common.{sym, ap, ◌∙◌}
use Rattle.std.proofs.lemmas.Bool.{not-true}
use Rattle.html_page_names.specs.PageNames.{of}
use Rattle.html_page_names.specs.declared.kind.Kind.TheVariants as kind
use Rattle.html_page_stack.proofs.Milestones.{no_item}
use Rattle.html_page_stack.proofs.milestone.Milestone.lacks_item.Goals as goal

pub returns-then-not-self : goal.returns-then-not-self
returns-then-not-self c = λ os known is_item.
    let item = sym (c.has.ensures ∙ c.kinds_of.ensures kind.ListItem
    ∙ ap (of kind.ListItem) c.resolve.ensures.text) ∙ is_item in
    no_item c.args.tag.now item c.args.scope c.in-ListItem.is os
    (sym (ap (λ m. m.has_open_item) known)
    ∙ not-true c.args.self.has_open_item c.if-not-self.true)
