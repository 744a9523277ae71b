use Rattle.std.proofs.Common.{◌≡◌, ◌<◌, ◌≤◌, ◌+◌, length, get_or, sym, ap, ◌∙◌, inl, inr, arith}
use mathlib.Core.Logic.{⊎_elim}
use Rattle.html_page_names.proofs.ByLetter.{no_letter, below_letters, in_group, view_at, view_past, long_at}
use Rattle.html_page_names.specs.{ReferenceRow.{value_in}, ReferenceTables.{groups_view}}
use Rattle.html_page_names.proofs.references.value_in_groups.Goals as goal

pub returns-in_err-first : goal.returns-in_err-first
returns-in_err-first c =
    let text = c.args.name.now in
    let short : length text ≤ 0 =
    rw (sym c.as_bytes.ensures.value) c.in_err-first.ensures.item.3 in
    rw c.from_residual.ensures
    (sym (no_letter (groups_view c.args.names.now c.args.references.now) text c.requires.grouped
    c.utf8.name short))

pub returns-in_err-checked_sub : goal.returns-in_err-checked_sub
returns-in_err-checked_sub c =
    let text = c.args.name.now in
    let first = c.in_ok-first.field-0.now in
    let is : first ≡ get_or text 0 0 =
    rw (sym c.as_bytes.ensures.value) (c.in_ok-first.ensures.item.3.1 0) in
    rw c.from_residual-in_err-checked_sub.ensures
    (sym (below_letters (groups_view c.args.names.now c.args.references.now) text first
    c.requires.grouped c.utf8.name is (omega (arith, c.in_err-checked_sub.ensures))))

pub value_in-requires : goal.value_in-requires
value_in-requires c =
    long_at c.args.names.now c.args.references.now c.from-place.result _ _ c.requires.long
    (omega (arith, c.if-place-names.true)) (omega (arith, c.if-place-references.true))

pub returns-then-place-references : goal.returns-then-place-references
returns-then-place-references c =
    let text = c.args.name.now in
    let first = c.in_ok-first.field-0.now in
    let is : first ≡ get_or text 0 0 =
    rw (sym c.as_bytes.ensures.value) (c.in_ok-first.ensures.item.3.1 0) in
    let long : 0 < length text =
    rw (sym c.as_bytes.ensures.value) c.in_ok-first.ensures.item.3.0 in
    let at : first ≡ 65 + c.from-place.result =
    omega (arith, c.in_ok-checked_sub.ensures, c.from-place.ensures) in
    c.value_in.ensures
    ∙ sym (in_group (groups_view c.args.names.now c.args.references.now) text first
    c.from-place.result c.requires.grouped c.utf8.name long is at
    ∙ ap (λ rows. value_in rows text)
    (view_at c.args.names.now c.args.references.now c.from-place.result _ _
    (omega (arith, c.if-place-names.true)) (omega (arith, c.if-place-references.true))))

pub returns-else-place-names : goal.returns-else-place-names
returns-else-place-names c =
    let text = c.args.name.now in
    let first = c.in_ok-first.field-0.now in
    let is : first ≡ get_or text 0 0 =
    rw (sym c.as_bytes.ensures.value) (c.in_ok-first.ensures.item.3.1 0) in
    let long : 0 < length text =
    rw (sym c.as_bytes.ensures.value) c.in_ok-first.ensures.item.3.0 in
    let at : first ≡ 65 + c.from-place.result =
    omega (arith, c.in_ok-checked_sub.ensures, c.from-place.ensures) in
    sym (in_group (groups_view c.args.names.now c.args.references.now) text first
    c.from-place.result c.requires.grouped c.utf8.name long is at
    ∙ ap (λ rows. value_in rows text)
    (view_past c.args.names.now c.args.references.now c.from-place.result
    (⊎_elim (λ h. inr h.1) inl c.else-place-names.either)))
