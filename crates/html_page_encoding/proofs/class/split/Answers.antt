use Rattle.std.proofs.Common.{length, sym, ◌∙◌, arith}
use Rattle.html_page_encoding.proofs.Fronts.{behind_is, front_is}
use Rattle.html_page_encoding.proofs.class.split.Goals as goal

pub returns-then-not-has-clause-front : goal.returns-then-not-has-clause-front
returns-then-not-has-clause-front c =
    let bs = c.args.bytes.now in
    c.split_at.ensures.front ∙ front_is c.args.class bs c.loop-at.at (omega arith)
    c.loop-at.invariant (λ h. sym c.has.ensures ∙ c.if-not-has.true)

pub returns-then-not-has-clause-behind : goal.returns-then-not-has-clause-behind
returns-then-not-has-clause-behind c =
    let bs = c.args.bytes.now in
    c.split_at.ensures.back ∙ behind_is c.args.class bs c.loop-at.at (omega arith)
    c.loop-at.invariant (λ h. sym c.has.ensures ∙ c.if-not-has.true)

pub returns-clause-front : goal.returns-clause-front
returns-clause-front c =
    let bs = c.args.bytes.now in
    c.split_at-2.ensures.front ∙ front_is c.args.class bs (length bs) (omega arith)
    (λ k h. c.loop-at.invariant k (omega arith)) (λ h. absurd (omega arith))

pub returns-clause-behind : goal.returns-clause-behind
returns-clause-behind c =
    let bs = c.args.bytes.now in
    c.split_at-2.ensures.back ∙ behind_is c.args.class bs (length bs) (omega arith)
    (λ k h. c.loop-at.invariant k (omega arith)) (λ h. absurd (omega arith))
