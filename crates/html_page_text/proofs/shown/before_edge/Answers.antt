use Rattle.std.{proofs.Common.{◌≡◌, true, false, [], ◌∷◌, ◌++◌, sym, ap, ◌∙◌}, specs.Prelude.{if◌then◌else◌}}
use Rattle.html_page_text.{proofs.PlainTexts.{before_edge-push}, specs.PlainTexts.{is_edge, before_edge}}
use Rattle.html_page_text.proofs.shown.before_edge.Goals as goal

pub returns-then-is_edge : goal.returns-then-is_edge
returns-then-is_edge c =
    let last = c.in-Some.last.now in
    let rest = c.in-Some.rest.now in
    let is : is_edge last ≡ true = sym c.is_edge.ensures ∙ c.if-is_edge.true in
    sym (ap before_edge c.in-Some.ensures.cases.0 ∙ (before_edge-push rest last
    ∙ ap (λ b. if b then rest else rest ++ last ∷ []) is))

pub returns-else-is_edge : goal.returns-else-is_edge
returns-else-is_edge c =
    let last = c.in-Some.last.now in
    let rest = c.in-Some.rest.now in
    let is : is_edge last ≡ false = sym c.is_edge.ensures ∙ c.if-is_edge.false in
    c.in-Some.ensures.cases.0
    ∙ sym (ap before_edge c.in-Some.ensures.cases.0 ∙ (before_edge-push rest last
    ∙ ap (λ b. if b then rest else rest ++ last ∷ []) is))
