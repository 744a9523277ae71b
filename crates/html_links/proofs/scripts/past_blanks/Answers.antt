use Rattle.std.proofs.Common.{◌≡◌, false, sym, ◌∙◌}
use Rattle.html_links.specs.Indicated.{is_control_or_space}
use Rattle.html_links.proofs.scripts.past_blanks.Goals as goal

pub returns-then-not-is_control_or_space : goal.returns-then-not-is_control_or_space
returns-then-not-is_control_or_space c =
    let shown : is_control_or_space c.in-Some.c ≡ false =
    sym c.is_control_or_space.ensures ∙ c.if-not-is_control_or_space.true in
    c.in-Some.ensures ∙ rw (c.in-Some.ensures, shown) at c.loop-c.invariant.same

pub returns : goal.returns
returns c = c.in_default.ensures ∙ rw c.in_default.ensures at c.loop-c.invariant.same
