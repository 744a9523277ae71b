-- An element stays if the policy allows it and browsers leave it where it is.
use Rattle.std.proofs.Common.{◌≡◌, Bool, true, false, ap, refl, sym, ◌∙◌, Some, None}
use Rattle.std.specs.Prelude.{if◌then◌else◌}
use Rattle.html_dom_tree.specs.Tree.{Head, none, ElementView}
use Rattle.html_page_nesting.specs.{Kept.{keeps_element, kept_inside}, Walks.{surroundings_in}}
use Rattle.html_page_nesting.specs.declared.surroundings.Surroundings.{Surroundings}
use Rattle.html_clean_policy.specs.Policies.{PolicyView, allows}
use Rattle.html_clean_nodes.specs.Cleaned.{kept_head, stays}

module _ (p : PolicyView) (around : Surroundings) (h : Head) (allowed : allows p h.name ≡ true) where
  abbrev kept : Head
  kept = kept_head p h

  some_by : (b : Bool) (inside : Surroundings) → keeps_element around kept none ≡ b →
      Some inside ≡ (if b then Some (surroundings_in kept around) else None) →
      (stays p around h ≡ true) × (inside ≡ surroundings_in kept around)
  some_by true inside e k = (rw (allowed, e) refl, cc)
  some_by false inside e k = let f : ⊥ = cc in absurd f

  none_by : (b : Bool) → keeps_element around kept none ≡ b →
      (if b then Some (surroundings_in kept around) else None) ≡ None →
      stays p around h ≡ false
  none_by true e k = let f : ⊥ = cc in absurd f
  none_by false e k = rw (allowed, e) refl

  pub stays_inside : (e : ElementView) (inside : Surroundings) → e ≡ (kept, none) →
      Some inside ≡ kept_inside around e.0 e.1 →
      (stays p around h ≡ true) × (inside ≡ surroundings_in kept around)
  stays_inside e inside is k = some_by (keeps_element around kept none) inside refl
      (k ∙ ap (λ x. kept_inside around x.0 x.1) is)

  pub does_not_stay : (e : ElementView) → e ≡ (kept, none) →
      None ≡ kept_inside around e.0 e.1 → stays p around h ≡ false
  does_not_stay e is k = none_by (keeps_element around kept none) refl
      (sym (k ∙ ap (λ x. kept_inside around x.0 x.1) is))
