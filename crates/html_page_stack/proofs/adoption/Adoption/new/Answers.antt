use Rattle.std.proofs.Common.{◌≡◌, ◌∙◌, List, ap, take, ℕ}
use Rattle.html_page_stack.proofs.Uncovering.{first_around}
use Rattle.html_page_stack.specs.{Adoption.{Adoption, around, index_outwards, shown_count}, PageViews.{format_of, list_of, stack_of}}
use Rattle.html_page_stack.specs.declared.element.PageElement.{PageElement}
use Rattle.html_page_stack.proofs.adoption.Adoption.new.Goals as goal

pub returns : goal.returns
returns c =
    let f = format_of c.args.format.now in
    let its : (third base : ℕ) → Adoption = λ third base. record {
      format = f;
      block = c.args.block;
      stack = stack_of c.args.stack.now;
      third = third;
      base = base;
    } in
    let same : (es : List PageElement) (n : ℕ) → es ≡ c.args.stack.now.items.items →
    list_of (take n es) ≡ around n (stack_of c.args.stack.now) =
    λ es n e. first_around es n ∙ ap (λ l. around n (list_of l)) e in
    ap (λ third. its third c.shown_count.result)
    (c.index_outwards.ensures ∙ ap (index_outwards 3)
    (same c.deref.result.now c.args.block c.deref.ensures.value))
    ∙ ap (its (index_outwards 3 (around c.args.block (stack_of c.args.stack.now))))
    (c.shown_count.ensures ∙ ap shown_count
    (same c.deref-2.result.now f.index c.deref-2.ensures.value))
