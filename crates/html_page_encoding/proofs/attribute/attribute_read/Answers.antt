use Rattle.std.proofs.Common.{◌+◌, ◌∷◌, length, sym, ap, ◌∙◌, arith, rules}
use Rattle.std.proofs.lemmas.List.{length-take}
use Rattle.html_page_encoding.proofs.{AttributeSteps.{named}, Fronts.{first_and_front}}
use Rattle.html_page_encoding.specs.{Attributes.{name_read}, Classes.{behind, front}}
use Rattle.html_page_encoding.specs.declared.class.Class.TheVariants as class
use Rattle.html_page_encoding.proofs.attribute.attribute_read.Goals as goal

pub slice_bounds-name_read-end : goal.slice_bounds-name_read-end
slice_bounds-name_read-end c =
    let front = first_and_front class.Name c.args.bytes.now _ _ _ c.in-Some.ensures
    c.split.ensures.front in
    omega (arith, front.0, length-take (length c.split.result.0.now + 1) c.args.bytes.now)

pub returns-in-Some : goal.returns-in-Some
returns-in-Some c =
    let bytes = c.args.bytes.now in
    let later = c.in-Some.behind_first.now in
    let first = c.in-Some.field-0-0 in
    let name = first_and_front class.Name bytes _ _ _ c.in-Some.ensures c.split.ensures.front in
    c.name_read.ensures
    ∙ (ap (λ n. name_read n c.split-in-Some.result.1.now) name.1
    ∙ (ap (name_read (first ∷ front class.Name later))
    (c.split-in-Some.ensures.behind ∙ ap (behind class.Space) c.split.ensures.behind)
    ∙ sym (named bytes later first c.in-Some.ensures (search rules))))
