use Rattle.std.proofs.{Common.{◌≡◌, Some, ap, sym, ◌∙◌, subst, arith, false}, lemmas.Bool.{false≢true}, lemmas.Slice.Eq.{bytes_eq-Decides}}
use Rattle.std.specs.{Char.{IsScalar}, Fmt.{digits}}
use Rattle.typst_html_read.proofs.Numbers.{none_numbered, one_numbered, is_number, is_read}
use Rattle.typst_html_read.proofs.reference.numbered.Goals as goal

pub returns-in_default : goal.returns-in_default
returns-in_default c = none_numbered c.args.digits.now c.utf8.digits
    (λ n e s p. c.in_default.ensures.value (is_read c.args.digits.now n e s))

pub returns-in_default-from_u32 : goal.returns-in_default-from_u32
returns-in_default-from_u32 c = none_numbered c.args.digits.now c.utf8.digits
    (λ n e s p. c.in_default-from_u32.ensures.value (subst IsScalar
    (sym (c.in-Ok.ensures.value.1 ∙ is_number c.args.digits.now n e s)) s))

pub returns-then-number-eq0 : goal.returns-then-number-eq0
returns-then-number-eq0 c = none_numbered c.args.digits.now c.utf8.digits
    (λ n e s p. let q : c.in-Ok.number ≡ n = c.in-Ok.ensures.value.1
    ∙ is_number c.args.digits.now n e s in omega (arith, p, q))

pub returns-then-eq : goal.returns-then-eq
returns-then-eq c =
    let read = c.in-Some.ensures.value in
    let written : c.as_str.result.now ≡ digits 16 false c.in-Ok.number =
    c.as_str.ensures.value ∙ rw c.in_radix.ensures at c.in_ok-spelling.ensures.ok in
    let same : c.as_str.result.now ≡ c.args.digits.now =
    (bytes_eq-Decides _ _).0 (sym c.eq.ensures ∙ c.if-eq.true) in
    ap Some read.1
    ∙ one_numbered c.args.digits.now c.in-Ok.number (sym same ∙ written) read.0
    (omega (arith, c.if-number-eq0.false))

pub returns : goal.returns
returns c =
    let written : c.as_str.result.now ≡ digits 16 false c.in-Ok.number =
    c.as_str.ensures.value ∙ rw c.in_radix.ensures at c.in_ok-spelling.ensures.ok in
    none_numbered c.args.digits.now c.utf8.digits
    (λ n e s p. let q : c.in-Ok.number ≡ n = c.in-Ok.ensures.value.1
    ∙ is_number c.args.digits.now n e s in
    let same : c.as_str.result.now ≡ c.args.digits.now =
    written ∙ (ap (digits 16 false) q ∙ sym e) in
    false≢true (sym c.if-eq.false ∙ (c.eq.ensures ∙ (bytes_eq-Decides _ _).1 same)))
