use Rattle.std.proofs.Common.{arith, subst, sym}
use Rattle.html_page_stack.proofs.{OpenFormats.{as_many}, Uncovering.{fewer_around}}
use Rattle.html_page_stack.specs.{AdoptionViews.{IsInReach}, PageViews.{stack_of}}
use Rattle.html_page_stack.proofs.page.Page.move_block.Goals as goal

pub adopt-requires : goal.adopt-requires
adopt-requires c =
    let s = c.args.self.now.stack in
    subst (λ a. IsInReach a c.len.result) (sym c.new-adoption.ensures) (record {
      order = c.requires.order;
      within = c.requires.within;
      base = fewer_around c.args.format.now.index (stack_of s);
      few = omega (arith, as_many s.items.items, s.items.small);
      made = omega (arith, c.len.ensures, c.args.kept.small);
    })
