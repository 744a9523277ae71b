use Rattle.std.{proofs.Common.{◌≡◌, true, Some, None, chars, take, sym, ap, ◌∙◌}, specs.Prelude.{◌∷◌, option_to_list}}
use Rattle.html_names_core.specs.Names.{is_ascii}
use Rattle.html_page_names.specs.NamedReferences.{legacy_reference}
use Rattle.html_page_read.proofs.References.{found_here, found_later, front_chars, rest_chars}
use Rattle.html_page_read.proofs.legacy.+longest_legacy.Goals as goal
use native.Mathlib.Numerals.{unary_clauses}

pub returns-in-Some : goal.returns-in-Some
returns-in-Some m c =
    let n = c.args.at_most in
    let t = c.args.text.now in
    let value = c.in-Some.value.0 ∷ option_to_list c.in-Some.value.1 in
    let ascii : is_ascii t ≡ true = assumption c.requires in
    let name = front_chars t ascii n c.min-length.result c.range.result.now c.min-length.ensures
    (simp unary_clauses at c.range.ensures.value) in
    let left = rest_chars t ascii n c.min-length.result c.range_from.result.now c.min-length.ensures
    c.range_from.ensures.value in
    let found : legacy_reference (take n (chars t)) ≡ Some value =
    ap legacy_reference (sym name) ∙ sym c.in-Some.ensures in
    sym (found_here n (chars t) value c.if-at_most-eq0.false found
    ∙ ap (λ l. Some (value, l)) (sym left))

pub returns-in-None : goal.returns-in-None
returns-in-None m c =
    let n = c.args.at_most in
    let t = c.args.text.now in
    let ascii : is_ascii t ≡ true = assumption c.requires in
    let name = front_chars t ascii n c.min-length.result c.range.result.now c.min-length.ensures
    (simp unary_clauses at c.range.ensures.value) in
    let none : legacy_reference (take n (chars t)) ≡ None =
    ap legacy_reference (sym name) ∙ sym c.in-None.ensures in
    c.longest_legacy.ensures ∙ sym (found_later n (chars t) c.if-at_most-eq0.false none)
