use Rattle.std.proofs.Common.{◌≡◌, true, false, [], refl, sym, ◌∙◌, subst}
use Rattle.html_dom_tree.specs.Views.{attrs_view}
use Rattle.html_page_names.specs.PageNames.{of}
use Rattle.html_page_names.specs.declared.kind.Kind.TheVariants as kind
use Rattle.html_page_stack.specs.{Endings.{Turns}, PageViews.{page_of}, Pages.{noted}}
use Rattle.html_page_stack.specs.declared.error.PageError.TheVariants.{EndTagBr}
use Rattle.html_page_tree.proofs.Branches.{pick, skip}
use Rattle.html_page_tree.specs.PageBodies.{in_body_end, in_body_start}
use Rattle.html_page_tree.proofs.body_end.in_body_end.Goals as goal

pub returns-then-is-2 : goal.returns-then-is-2
returns-then-is-2 c =
    let n = c.args.name.tag in
    let p = page_of c.args.page.now in
    let root : of kind.Root n ≡ false = sym c.is.ensures ∙ c.if-is.false in
    let br : of kind.Br n ≡ true = sym c.is-2.ensures ∙ c.if-is-2.true in
    let bare : attrs_view c.new-attrs.result ≡ [] = c.new-attrs.ensures in
    let before : page_of c.note.new.self ≡ noted EndTagBr p = c.in_ok-note.ensures in
    let same : in_body_end n p
    ≡ in_body_start (record { name = n; attrs = []; closed = false }) (noted EndTagBr p) =
    skip _ root (pick _ br refl) in
    subst (λ x. Turns c.in_body_start.result x (page_of c.in_body_start.new.page))
    ((λ i. in_body_start (record { name = n; attrs = bare i; closed = false }) (before i)) ∙ sym same)
    c.in_body_start.ensures
