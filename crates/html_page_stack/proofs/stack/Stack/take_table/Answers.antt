use Rattle.std.proofs.Common.{◌≡◌, arith, ◌∷◌, [], ◌++◌, append_assoc, length, map, sym, ap, ◌∙◌}
use Rattle.std.{proofs.lemmas.List.{map-append}, specs.Prelude.{if◌then◌else◌}}
use Rattle.html_page_stack.proofs.BeforeTables.{at_table}
use Rattle.html_page_stack.specs.{OpenElements.{before_table, behind_current, in_current}, PageViews.{element_of, stack_of}}
use Rattle.html_page_stack.proofs.stack.Stack.take_table.Goals as goal

pub returns-then-is_table : goal.returns-then-is_table
returns-then-is_table c add =
    let o = element_of c.in-Some.element in
    let os = stack_of c.pop.new.self in
    let inside = map element_of c.loop-self.inside.items in
    let popped : stack_of c.loop-self.self ≡ o ∷ os = c.in-Some.ensures in
    let more : map element_of c.around.result.inside.items ≡ inside ++ o ∷ [] =
    ap (map element_of) (c.around.ensures.inside ∙ c.in_ok-push.ensures.items)
    ∙ map-append element_of c.loop-self.inside.items (c.in-Some.element ∷ []) in
    c.loop-self.invariant add
    ∙ (ap (λ s. inside ++ before_table add s) popped
    ∙ (ap (λ s. inside ++ s) (at_table add o os (sym c.if-is_table.ensures)
    (omega (arith, c.loop-self-test.true, c.len.ensures, ap length popped)))
    ∙ (sym (append_assoc inside (o ∷ []) (in_current add os))
    ∙ (ap (λ l. l ++ in_current add os) (sym more)
    ∙ ap (λ b. map element_of c.around.result.inside.items
    ++ (if b then behind_current add os else in_current add os)) (sym c.around.ensures.behind)))))
