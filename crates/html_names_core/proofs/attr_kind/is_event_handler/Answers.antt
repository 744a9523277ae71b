use Rattle.std.{proofs.Common.{◌≡◌, true, chars, sym, ap, ◌∙◌, subst}, specs.Char.{eq_ignore_ascii_case}, specs.Str.{IsUtf8}}
use Rattle.html_names_core.{proofs.AttrKinds.{one_read, two_read}, specs.AttrKinds.{is_event_handler}}
use Rattle.html_names_core.proofs.attr_kind.is_event_handler.Goals as goal

pub returns-in_default-next : goal.returns-in_default-next
returns-in_default-next c =
    let name = ap chars c.chars-letters.ensures.rest ∙ c.resolve.ensures.text in
    let u = subst IsUtf8 (sym c.chars-letters.ensures.rest) c.resolve.utf8 in
    sym (one_read _ _ _ u c.in-Some.ensures.steps.0 c.in_default-next.ensures.steps.0.0)
    ∙ ap is_event_handler name

pub returns-then-eq_ignore_ascii_case : goal.returns-then-eq_ignore_ascii_case
returns-then-eq_ignore_ascii_case c =
    let name = ap chars c.chars-letters.ensures.rest ∙ c.resolve.ensures.text in
    let u = subst IsUtf8 (sym c.chars-letters.ensures.rest) c.resolve.utf8 in
    let is_o : eq_ignore_ascii_case c.in-Some.first 111 ≡ true =
    sym c.eq_ignore_ascii_case.ensures ∙ c.if-eq_ignore_ascii_case.true in
    let read = two_read _ _ _ _ _ u c.in-Some.ensures.steps.0 c.in-Some-next.ensures.steps.0 in
    c.eq_ignore_ascii_case-then-eq_ignore_ascii_case.ensures
    ∙ (sym (rw is_o at read) ∙ ap is_event_handler name)
