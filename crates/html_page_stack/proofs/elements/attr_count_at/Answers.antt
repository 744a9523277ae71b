use Rattle.std.{proofs.Common.{arith, length, map, sym, ap, ◌∙◌}, proofs.lemmas.List.{length-map}, specs.Prelude.{if◌then◌else◌}}
use Rattle.html_dom_tree.specs.Views.{pair_view}
use Rattle.html_page_names.specs.PageNames.{of}
use Rattle.html_page_stack.{proofs.Merging.{count_here, count_past}, specs.ElementViews.{element_of}}
use Rattle.html_page_stack.proofs.elements.attr_count_at.Goals as goal

pub returns-then-elements-index : goal.returns-then-elements-index
returns-then-elements-index c =
    sym (count_past (map element_of c.args.elements.now) c.args.index (of c.args.kind)
    (omega (arith, c.if-elements-index.true, length-map c.args.elements.now element_of)))

pub returns-then-is : goal.returns-then-is
returns-then-is c =
    let e = c.index-elements-index.result in
    let attrs = (element_of e).head.attrs in
    let here = count_here c.args.elements.now c.args.index e (of c.args.kind)
    (omega (arith, c.if-elements-index.false)) c.index-elements-index.is in
    omega (
      arith,
      c.len.ensures,
      here ∙ ap (λ b. if b then length attrs else 0)
          (sym c.is.ensures ∙ c.if-is.true),
      length-map e.element.attrs.0.items pair_view,
      e.element.attrs.0.ok.0,
    )

pub returns-else-is : goal.returns-else-is
returns-else-is c =
    let e = c.index-elements-index.result in
    let attrs = (element_of e).head.attrs in
    sym (count_here c.args.elements.now c.args.index e (of c.args.kind)
    (omega (arith, c.if-elements-index.false)) c.index-elements-index.is
    ∙ ap (λ b. if b then length attrs else 0) (sym c.is.ensures ∙ c.if-is.false))
