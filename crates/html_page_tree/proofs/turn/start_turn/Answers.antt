use Rattle.std.proofs.Common.{◌≡◌, true, sym, ◌∙◌, subst}
use Rattle.html_page_stack.specs.{Endings.{Turns}, PageViews.{page_of, start_of}}
use Rattle.html_page_tree.{proofs.BodyStarts.{start_turn}, specs.BodyStarts.{begins_in_body}}
use Rattle.html_page_tree.proofs.turn.start_turn.Goals as goal

pub returns-then-begins_in_body : goal.returns-then-begins_in_body
returns-then-begins_in_body c =
    let t = start_of c.args.start in
    let p = page_of c.args.page.now in
    let begins : begins_in_body t.name p ≡ true =
    sym c.begins_in_body.ensures ∙ c.if-begins_in_body.true in
    subst (λ x. Turns c.in_body_start.result x (page_of c.in_body_start.new.page))
    (sym (start_turn t p begins)) c.in_body_start.ensures
