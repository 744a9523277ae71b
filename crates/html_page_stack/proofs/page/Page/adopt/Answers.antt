use Rattle.std.proofs.Common.{arith, ap, length}
use Rattle.html_page_stack.{proofs.Stacks.{settled_length}, specs.PageViews.{page_of}}
use Rattle.html_page_stack.proofs.page.Page.adopt.Goals as goal

pub new-adoption-requires-clause-within : goal.new-adoption-requires-clause-within
new-adoption-requires-clause-within c = omega (
  arith,
  c.requires.within,
  ap (λ p. length p.stack) c.in_ok-settle.ensures,
  settled_length (page_of c.args.self.now),
)

pub move_block-requires-clause-within : goal.move_block-requires-clause-within
move_block-requires-clause-within c = omega (
  arith,
  c.requires.within,
  ap (λ p. length p.stack) c.in_ok-settle.ensures,
  settled_length (page_of c.args.self.now),
)
