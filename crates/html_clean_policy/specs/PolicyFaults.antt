-- Numbers and texts of faults of policies, and how a call ends that may return one.
use Rattle.std.specs.Prelude.{◌≡◌, ℕ, Bool, true, false, List, [], Result, IfOk, IfErr}
use Rattle.html_names_core.specs.Texts.{text_view}
use Rattle.html_clean_policy.specs.{Policies.{PolicyView}, PolicyViews.{policy_view}}
use Rattle.html_clean_policy.specs.declared.fault.{PolicyFault.{PolicyFault}, PolicyRefused.{PolicyRefused}}
use Rattle.html_clean_policy.specs.declared.fault.PolicyFault.TheVariants.{OutOfMemory, NeverKeptTag, NeverKeptAttr, BadScheme, BadProperty, BadPrefix, BadRel}
use Rattle.html_clean_policy.specs.declared.policy.Policy.{Policy}

abbrev pub number_of : PolicyFault → ℕ
number_of OutOfMemory = 0
number_of (NeverKeptTag name) = 1
number_of (NeverKeptAttr name) = 2
number_of (BadScheme text) = 3
number_of (BadProperty text) = 4
number_of (BadPrefix text) = 5
number_of (BadRel text) = 6

-- the text that the fault is about
abbrev pub fault_text : PolicyFault → List ℕ
fault_text OutOfMemory = []
fault_text (NeverKeptTag name) = name
fault_text (NeverKeptAttr name) = name
fault_text (BadScheme text) = text_view text
fault_text (BadProperty text) = text_view text
fault_text (BadPrefix text) = text_view text
fault_text (BadRel text) = text_view text

-- the fault of a text that can't be taken, unless an allocation failed
abbrev pub IsFaultOf : (number : ℕ) (text : List ℕ) (is_fine : Bool) → PolicyFault → Type 0
IsFaultOf number text is_fine OutOfMemory = Unit {0}
IsFaultOf number text is_fine fault =
    (number_of fault ≡ number) × (fault_text fault ≡ text) × (is_fine ≡ false)

-- a call takes a text that is fine, and else returns that fault and the policy as it was
pub record Extends (r : Result Policy PolicyRefused) (old new : PolicyView)
    (number : ℕ) (text : List ℕ) (is_fine : Bool) : Type 0 where
  pub fine : IfOk r (λ p. is_fine ≡ true)
  pub made : IfOk r (λ p. policy_view p ≡ new)
  pub fault : IfErr r (λ e. IsFaultOf number text is_fine e.fault)
  pub back : IfErr r (λ e. policy_view e.back ≡ old)
