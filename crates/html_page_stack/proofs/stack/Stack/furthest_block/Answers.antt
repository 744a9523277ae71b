use Rattle.std.proofs.Common.{IfSome, sym, ap, ◌∙◌, subst}
use Rattle.html_page_stack.proofs.Adopting.{block_at}
use Rattle.html_page_stack.specs.{Adoption.{furthest_block}, AdoptionViews.{IsInside}, PageViews.{list_of, stack_of}}
use Rattle.html_page_stack.proofs.stack.Stack.furthest_block.Goals as goal

pub returns-clause-inside : goal.returns-clause-inside
returns-clause-inside c = let os = stack_of c.args.self.now in
    subst (λ r. IfSome r (λ block. IsInside c.args.index block os))
    (sym (c.furthest_block.ensures
    ∙ ap (λ es. furthest_block c.args.index (list_of es)) c.deref.ensures.value))
    (block_at c.args.index os)
