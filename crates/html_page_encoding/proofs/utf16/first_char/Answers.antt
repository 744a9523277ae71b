use Rattle.std.proofs.Common.{sym, ◌∙◌, subst}
use Rattle.std.specs.Char.{InScalarRange, OutOfScalarRange}
use Rattle.html_page_encoding.proofs.Utf16Steps.{lone_char, lost_byte, lost_pair, lost_unit, no_surrogate, paired, surrogate}
use Rattle.html_page_encoding.proofs.utf16.first_char.Goals as goal

pub returns-in_err-high : goal.returns-in_err-high
returns-in_err-high c =
    rw c.from_residual.ensures
    (lost_byte c.args.big c.args.bytes.now c.requires c.in_err-high.ensures)

pub returns-in-Some : goal.returns-in-Some
returns-in-Some c =
    lone_char _ _ _ _ c.in_ok-high.ensures c.in-Some.c (c.in-Some.ensures.value.1 ∙ c.from.ensures)
    (no_surrogate c.in_ok-high.high (subst InScalarRange c.from.ensures c.in-Some.ensures.cases))

pub returns-in_err-low : goal.returns-in_err-low
returns-in_err-low c =
    let high = surrogate c.in_ok-high.high c.in_ok-high.ensures.small
    (subst OutOfScalarRange c.from.ensures c.in_default.ensures.cases) in
    rw c.from_residual-in_err-low.ensures
    (lost_unit _ _ _ _ c.in_ok-high.ensures high c.in_err-low.ensures)

pub returns-in_err-c : goal.returns-in_err-c
returns-in_err-c c =
    let high = surrogate c.in_ok-high.high c.in_ok-high.ensures.small
    (subst OutOfScalarRange c.from.ensures c.in_default.ensures.cases) in
    rw c.from_residual-in_err-c.ensures
    (lost_pair _ _ _ _ c.in_ok-high.ensures _ _ c.in_ok-low.ensures high (sym c.in_err-c.ensures))

pub returns : goal.returns
returns c = paired _ _ _ _ c.in_ok-high.ensures _ _ c.in_ok-low.ensures c.in_ok-c.c
    (sym c.in_ok-c.ensures)
