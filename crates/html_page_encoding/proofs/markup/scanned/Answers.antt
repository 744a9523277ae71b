use Rattle.std.proofs.Common.{◌≡◌, ◌-◌, length, sym, ap, ◌∙◌, arith}
use Rattle.html_page_encoding.proofs.ScanSteps.{cut_step, declared_step, no_step, passed_step}
use Rattle.html_page_encoding.specs.Prescan.{scanned, scanned_within}
use Rattle.html_page_encoding.proofs.markup.scanned.Goals as goal

pub loop-init : goal.loop-init
unfolding scanned
loop-init c =
    let bytes = c.args.bytes.now in
    let all : length bytes - 0 ≡ length bytes = omega arith in
    ap (λ n. scanned_within n bytes) all

pub returns-in-Cut : goal.returns-in-Cut
returns-in-Cut c =
    sym (cut_step _ c.loop.counter _ c.loop-test.true (sym c.in-Cut.ensures)) ∙ c.loop.invariant

pub returns-in-Declared : goal.returns-in-Declared
returns-in-Declared c =
    sym (declared_step _ c.loop.counter _ c.loop-test.true _ (sym c.in-Declared.ensures))
    ∙ c.loop.invariant

pub loop-preserved : goal.loop-preserved
loop-preserved c =
    sym (passed_step _ c.loop.counter _ c.loop-test.true _ (sym c.in-Passed.ensures))
    ∙ c.loop.invariant

pub returns : goal.returns
returns c = sym (no_step _ c.loop.counter _ c.loop-test.false) ∙ c.loop.invariant
