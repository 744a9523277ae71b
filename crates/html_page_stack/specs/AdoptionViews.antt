-- The program's adoption as that of the definition.
use Rattle.std.specs.Prelude.{ℕ, ◌<◌, ◌≤◌, ◌^◌, List, length}
use Rattle.html_page_stack.specs.Adoption as adoptions
use Rattle.html_page_stack.specs.OpenElements.{OpenElement}
use Rattle.html_page_stack.specs.PageViews.{format_of, stack_of}
use Rattle.html_page_stack.specs.declared.adoption.Adoption.{Adoption}

abbrev pub adoption_of : Adoption → adoptions.Adoption
adoption_of a = record {
  format = format_of a.format.now;
  block = a.block;
  stack = stack_of a.stack.now;
  third = a.third;
  base = a.base;
}

-- the block is an open element inside the formatting element, by their indices
pub record IsInside (index block : ℕ) (os : List OpenElement) : Type 0 where
  pub order : index < block
  pub within : block < length os

-- and indices fit
pub record IsInReach (a : adoptions.Adoption) (count : ℕ) : Type 0 where
  pub order : a.format.index < a.block
  pub within : a.block < length a.stack
  pub base : a.base ≤ a.format.index
  pub few : length a.stack < 2 ^ 63
  pub made : count < 2 ^ 63
