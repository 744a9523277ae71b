use Rattle.std.proofs.Common.{Bool, ◌∷◌, Option, ap, ◌∙◌}
use Rattle.html_page_stack.specs.{Contexts.{brought_mode}, ElementViews.{element_of}}
use Rattle.html_page_stack.specs.declared.{context.Context.{Context}, milestone.Milestone.{Milestone}, modes.Mode.{Mode}}
use Rattle.html_page_stack.specs.PageViews.{stack_of}
use Rattle.html_page_stack.proofs.stack.Stack.context_with.Goals as goal

pub returns : goal.returns
returns c =
    let o = element_of c.args.element.now in
    let made : Option Mode → Bool → Option Milestone → Context = λ mode has_paragraph milestone.
    record { mode = mode; has_paragraph = has_paragraph; milestone = milestone } in
    ap (λ m. made m c.has_paragraph_with.result c.next_milestone.result) c.mode_with.ensures
    ∙ (ap (λ b. made (brought_mode (o ∷ stack_of c.args.self.now)) b c.next_milestone.result)
    c.has_paragraph_with.ensures
    ∙ ap (made (brought_mode (o ∷ stack_of c.args.self.now)) _) (c.next_milestone.ensures o))
