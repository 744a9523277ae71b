use Rattle.std.proofs.Common.{◌≡◌, ◌&&◌, false, not, refl, sym, ap, ◌∙◌, subst}
use Rattle.html_page_names.specs.PageNames.{of}
use Rattle.html_page_names.specs.declared.kind.Kind.TheVariants as kind
use Rattle.html_page_stack.specs.{Endings.{Turns}, PageViews.{page_of}, Pages.{noted_if}}
use Rattle.html_page_stack.specs.declared.error.PageError.TheVariants.{FosterParenting}
use Rattle.html_page_tree.proofs.Branches.{skip}
use Rattle.html_page_tree.specs.{PageBodies.{in_body_end}, PageTrees.{ends_nothing_in_table, has_table, in_table_end}}
use Rattle.html_page_tree.proofs.table.end_in_table.Goals as goal

pub returns : goal.returns
returns c =
    let n = c.args.name.tag in
    let p = page_of c.args.page.now in
    let table : (of kind.Table n && has_table p) ≡ false =
    sym c.ends_table.ensures ∙ c.if-ends_table.false in
    let ignored : ends_nothing_in_table n ≡ false =
    sym c.ends_nothing_in_table.ensures ∙ c.if-ends_nothing_in_table.false in
    let same : in_table_end n p
    ≡ in_body_end n (noted_if (not (of kind.Template n)) FosterParenting p) =
    skip _ table (skip _ ignored refl) in
    let noted = c.in_ok-note_if.ensures
    ∙ ap (λ b. noted_if (not b) FosterParenting p) c.is-is_fostered.ensures in
    subst (λ x. Turns c.in_body_end.result x (page_of c.in_body_end.new.page))
    (ap (in_body_end n) noted ∙ sym same) c.in_body_end.ensures
