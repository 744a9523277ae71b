use Rattle.std.proofs.Common.{◌-◌, ap, ◌∙◌, length, take, ◌∷◌, [], refl}
use Rattle.html_names_core.proofs.Basics.{last_taken}
use Rattle.html_page_nesting.proofs.consumed.leave.Goals as goal

pub returns : goal.returns
returns c = λ parent index is.
    let path = c.args.path.now in
    c.pop.ensures.rest
    ∙ (ap (λ n. take (n - 1) path.items) path.ok.0
    ∙ (ap (λ items. take (length items - 1) items) is ∙ last_taken parent (index ∷ []) 1 refl))
