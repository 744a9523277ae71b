use Rattle.std.proofs.Common.{◌≡◌, ◌+◌, ◌-◌, length, sym, ap, ◌∙◌, arith}
use Rattle.html_page_encoding.proofs.AttributeSteps.{close_step, cut_step, next_step, no_step}
use Rattle.html_page_encoding.specs.{Attributes.{attributes_from, attributes_within}, Views.{attribute_view, meta_view}}
use Rattle.html_page_encoding.proofs.attribute.attributes.Goals as goal

pub loop-init : goal.loop-init
unfolding attributes_from
loop-init c =
    let bytes = c.args.bytes.now in
    let all : length bytes - 0 ≡ length bytes = omega arith in
    ap (λ n. attributes_within n (meta_view c.new-meta.result) bytes) all
    ∙ ap (λ m. attributes_within (length bytes) m bytes) c.new-meta.ensures

pub returns-in-Cut : goal.returns-in-Cut
returns-in-Cut c =
    sym (cut_step _ c.loop.counter _ _ c.loop-test.true (sym c.in-Cut.ensures))
    ∙ c.loop.invariant

pub returns-in-Close : goal.returns-in-Close
returns-in-Close c =
    sym (close_step _ c.loop.counter _ _ c.loop-test.true _ (sym c.in-Close.ensures))
    ∙ c.loop.invariant

pub loop-preserved : goal.loop-preserved
loop-preserved c =
    let rest = c.in-Next.attribute.rest.now in
    let left = length c.args.bytes.now - (c.loop.counter + 1) in
    ap (λ m. attributes_within left m rest) c.with-meta.ensures
    ∙ (sym (next_step _ c.loop.counter _ _ c.loop-test.true (attribute_view c.in-Next.attribute)
    (sym c.in-Next.ensures)) ∙ c.loop.invariant)

pub returns : goal.returns
returns c = sym (no_step _ c.loop.counter _ _ c.loop-test.false) ∙ c.loop.invariant
