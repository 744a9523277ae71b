-- Faults of casts that are not none are one fault.
use Rattle.std.proofs.{Common.{◌≡◌, ◌<◌, ◌∙◌, ◌++◌, ℕ, List, [], ◌∷◌, length, sym, ap, arith}, lemmas.List.{append-nil}}
use Rattle.html_dom_tree.specs.declared.span.Span.{Span}
use Rattle.html_values_css.specs.declared.cast_fault.CastFault.{CastFault}
use Rattle.html_flow_faults.specs.ConstructFaults.{cast_faults, faults_view}
use Rattle.html_flow_construct.specs.Construct.{joined_faults}

pub joined-found : (found : List (CastFault × Span)) (left all : List (CastFault × ℕ))
    → 0 < length found → left ≡ [] → faults_view found ++ left ≡ all
    → joined_faults all ≡ cast_faults (faults_view found) ∷ []
joined-found [] left all some none together = absurd (omega arith)
joined-found (f ∷ fs) left all some none together =
    let found = faults_view (f ∷ fs) in
    let same = sym together ∙ ap (λ l. found ++ l) none ∙ append-nil found in
    ap joined_faults same
