use Rattle.std.{proofs.Common.{arith, get_or, map, sym, ap, ◌∙◌}, proofs.lemmas.List.{length-map}, specs.Prelude.{if◌then◌else◌}}
use Rattle.html_dom_tree.specs.Views.{attrs_view}
use Rattle.html_page_names.specs.PageNames.{of}
use Rattle.html_page_stack.{proofs.Merging.{known_here, merged_here, merged_past}, specs.ElementViews.{element_of}}
use Rattle.html_page_stack.specs.OpenElements.{with_attrs}
use Rattle.html_page_stack.proofs.elements.merge_at.Goals as goal

pub returns-then-elements-index-clause-merged : goal.returns-then-elements-index-clause-merged
returns-then-elements-index-clause-merged c =
    sym (merged_past (map element_of c.args.elements.now) c.args.index (of c.args.kind)
    (attrs_view c.args.others)
    (omega (arith, c.if-elements-index.true, length-map c.args.elements.now element_of)))

pub returns-in_err-merge-clause-known : goal.returns-in_err-merge-clause-known
returns-in_err-merge-clause-known c =
    known_here c.args.elements.now c.args.index c.index-elements-index.result c.merge.new.self
    (omega (arith, c.if-elements-index.false)) c.merge.ensures.known

pub returns-in_ok-merge-clause-merged : goal.returns-in_ok-merge-clause-merged
returns-in_ok-merge-clause-merged c =
    let d = c.index-elements-index.result in
    let o = element_of (get_or c.args.elements.now c.args.index d) in
    let others = attrs_view c.args.others in
    merged_here c.args.elements.now c.args.index d c.merge.new.self (of c.args.kind) others
    (omega (arith, c.if-elements-index.false))
    (c.in_ok-merge.ensures.merged ∙ sym (ap (λ b. if b then with_attrs others o else o)
    (sym c.is.ensures ∙ c.if-is.true)))

pub returns-in_ok-merge-clause-known : goal.returns-in_ok-merge-clause-known
returns-in_ok-merge-clause-known c =
    known_here c.args.elements.now c.args.index c.index-elements-index.result c.merge.new.self
    (omega (arith, c.if-elements-index.false)) c.merge.ensures.known

pub returns-else-is-clause-merged : goal.returns-else-is-clause-merged
returns-else-is-clause-merged c =
    let d = c.index-elements-index.result in
    let x = get_or c.args.elements.now c.args.index d in
    let o = element_of x in
    let others = attrs_view c.args.others in
    merged_here c.args.elements.now c.args.index d x (of c.args.kind) others
    (omega (arith, c.if-elements-index.false))
    (sym (ap (λ b. if b then with_attrs others o else o) (sym c.is.ensures ∙ c.if-is.false)))
