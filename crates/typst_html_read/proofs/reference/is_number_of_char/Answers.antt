use Rattle.std.proofs.{Common.{sym, ap, ◌∙◌, nat_lt}, StrCases.{chars_of_empty}, lemmas.Bool.{eqb-true}}
use Rattle.std.specs.Str.Parse.{digits_value}
use Rattle.typst_html_read.proofs.BegunReferences.{digits_read, digits_high}
use Rattle.typst_html_read.proofs.reference.is_number_of_char.Goals as goal

pub returns-then-is_empty : goal.returns-then-is_empty
returns-then-is_empty c =
    let none = chars_of_empty c.args.digits.now
    (eqb-true _ 0 (sym c.is_empty.ensures ∙ c.if-is_empty.true)) in
    sym (ap (λ cs. nat_lt (digits_value 16 cs) 0x11_0000) none)

pub returns-in-Ok : goal.returns-in-Ok
returns-in-Ok c =
    let ds = c.args.digits.now in
    ap (λ n. nat_lt n 0x11_0000) (c.in-Ok.ensures.value.1
    ∙ ap (digits_value 16) (digits_read ds c.utf8.digits c.requires))

pub returns-in-Err : goal.returns-in-Err
returns-in-Err c =
    sym (digits_high c.args.digits.now c.utf8.digits c.requires
    (sym c.is_empty.ensures ∙ c.if-is_empty.false) c.in-Err.ensures.value)
