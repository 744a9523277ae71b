use Rattle.std.proofs.Common.{◌≡◌, false, refl, sym, ap, ◌∙◌, subst}
use Rattle.html_page_names.specs.PageNames.{of}
use Rattle.html_page_names.specs.declared.kind.Kind.TheVariants as kind
use Rattle.html_page_stack.specs.{Endings.{Turns}, PageViews.{page_of, start_of}, Pages.{noted}}
use Rattle.html_page_stack.specs.declared.error.PageError.TheVariants.{FosterParenting}
use Rattle.html_page_tree.proofs.Branches.{skip}
use Rattle.html_page_tree.specs.{PageBodies.{in_body_start, is_hidden_input}, PageTrees.{in_table_other, stays_in_table}}
use Rattle.html_page_tree.proofs.table.other_start_in_table.Goals as goal

pub returns-else-is-4 : goal.returns-else-is-4
returns-else-is-4 c =
    let t = start_of c.args.start in
    let p = page_of c.args.page.now in
    let table : of kind.Table t.name ≡ false = sym c.is.ensures ∙ c.if-is.false in
    let stays : stays_in_table t.name ≡ false =
    sym c.stays_in_table.ensures ∙ c.if-stays_in_table.false in
    let root : of kind.Root t.name ≡ false = sym c.is-else-stays_in_table.ensures ∙ c.if-is-2.false in
    let misplaced : of kind.Misplaced t.name ≡ false =
    sym c.is-else-is-2.ensures ∙ c.if-is-3.false in
    let hidden : is_hidden_input t ≡ false =
    sym c.is_hidden_input.ensures ∙ c.if-is_hidden_input.false in
    let form : of kind.Form t.name ≡ false =
    sym c.is-else-is_hidden_input.ensures ∙ c.if-is-4.false in
    let same : in_table_other t p ≡ in_body_start t (noted FosterParenting p) =
    skip _ table (skip _ stays (skip _ root (skip _ misplaced (skip _ hidden (skip _ form refl))))) in
    subst (λ x. Turns c.in_body_start.result x (page_of c.in_body_start.new.page))
    (ap (in_body_start t) c.in_ok-note-2.ensures ∙ sym same) c.in_body_start.ensures
