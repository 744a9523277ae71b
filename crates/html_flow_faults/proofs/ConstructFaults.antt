-- Refusals of constructing are equal where their views are.
use Rattle.std.proofs.Common.{◌≡◌, ◌==◌, ◌&&◌, ℕ, List, [], Bool, false, true≢false, refl, sym, ap}
use denote.Enum.Bare.{same_true, true_same}
use Rattle.std.{proofs.lemmas.Bool.Decides.{Decides-eqb}, specs.Bool.{Decides}}
use Rattle.html_values_css.{proofs.Equals.{lists_decide, pairs_decide}, specs.contracts.cast_fault.CastFault.{the_type}}
use Rattle.html_values_css.specs.declared.cast_fault.CastFault.{CastFault}
use Rattle.html_dom_tree.specs.declared.span.Span.{Span}
use Rattle.html_values_css.specs.contracts.cast_fault.CastFaultPartialEq.TheImpl as casts
use Rattle.html_flow_faults.specs.ConstructFaults.{ConstructFaultView, cast_faults, body_kind, construct_fault_view}
use Rattle.html_flow_faults.specs.declared.construct_fault.ConstructFault.{ConstructFault}
use Rattle.html_flow_faults.specs.declared.construct_fault.ConstructFault.TheVariants as kinds
use Rattle.html_flow_faults.specs.contracts.construct_fault.ConstructFaultPartialEq.TheImpl as block

apart : {P : Type 0} → (P → ⊥) → Decides false P
apart differ = (λ h. absurd (true≢false (sym h)), λ e. absurd (differ e))

fault_decides : (a b : CastFault) → Decides (casts.ghosts.eq a b) (a ≡ b)
fault_decides a b = (same_true the_type tt a b, true_same the_type a b)

abbrev same_one : CastFault × Span → CastFault × Span → Bool
same_one a b = casts.ghosts.eq a.0 b.0 && (a.1.0 == b.1.0)

abbrev one_view : CastFault × Span → CastFault × ℕ
one_view a = (a.0, a.1.0)

one_decides : (a b : CastFault × Span) → Decides (same_one a b) (one_view a ≡ one_view b)
one_decides a b = pairs_decide _ _ (fault_decides a.0 b.0) (Decides-eqb a.1.0 b.1.0)

abbrev faults_of : ConstructFaultView → List (CastFault × ℕ)
faults_of (cast_faults fs) = fs
faults_of v = []

abbrev span_of : ConstructFaultView → ℕ
span_of (body_kind span) = span
span_of v = 0

pub refusal_decides : (a b : ConstructFault)
    → Decides (block.ghosts.eq a b) (construct_fault_view a ≡ construct_fault_view b)
refusal_decides kinds.OutOfMemory kinds.OutOfMemory = (λ h. refl, λ e. refl)
refusal_decides kinds.OutOfMemory (kinds.Casts gs) = apart (λ e. cc)
refusal_decides kinds.OutOfMemory (kinds.BodyKind t) = apart (λ e. cc)
refusal_decides (kinds.Casts fs) kinds.OutOfMemory = apart (λ e. cc)
refusal_decides (kinds.Casts fs) (kinds.Casts gs) =
    let lists = lists_decide same_one one_view one_decides fs.items gs.items in
    (λ h. ap cast_faults (lists.0 h), λ e. lists.1 (ap faults_of e))
refusal_decides (kinds.Casts fs) (kinds.BodyKind t) = apart (λ e. cc)
refusal_decides (kinds.BodyKind s) kinds.OutOfMemory = apart (λ e. cc)
refusal_decides (kinds.BodyKind s) (kinds.Casts gs) = apart (λ e. cc)
refusal_decides (kinds.BodyKind s) (kinds.BodyKind t) =
    let spans = Decides-eqb s.0 t.0 in
    (λ h. ap body_kind (spans.0 h), λ e. spans.1 (ap span_of e))
