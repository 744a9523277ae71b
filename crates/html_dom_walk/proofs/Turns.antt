-- One turn of a loop over a walk that steps over each event.
use Rattle.std.{proofs.Common.{◌≡◌, ℕ, Bool, true, false, List, ◌∷◌, sym, ap, ◌∙◌}, specs.Prelude.{if◌then◌else◌}}
use Rattle.html_dom_tree.specs.Tree.{Head, NodesView}
use Rattle.html_dom_walk.{proofs.Passing.{skipped_is}, specs.Events.{Placed, enter, from_end}, specs.Passing.{past}}

module _ {S : Type 0} (step : S → Placed → S) (skips : S → Head → Bool) (s new all : S)
    (events later : List Placed) where
  -- the last premise is `refl` for an event that is no start of an element
  pub passed : (e : Placed) → events ≡ e ∷ later → new ≡ step s e →
      past step skips 0 s events ≡ all →
      past step skips 0 (step s e) later ≡ past step skips 0 s (e ∷ later) →
      past step skips 0 new later ≡ all
  passed e come more so_far same =
      ap (λ t. past step skips 0 t later) more
      ∙ (same ∙ (ap (past step skips 0 s) (sym come) ∙ so_far))

  -- into an element
  pub entered : (path : List ℕ) (h : Head) (kids : NodesView) →
      events ≡ (path, enter h kids) ∷ later →
      new ≡ step s (path, enter h kids) → past step skips 0 s events ≡ all → skips s h ≡ false →
      past step skips 0 new later ≡ all
  entered path h kids come more so_far is =
      passed (path, enter h kids) come more so_far
      (ap (λ b. past step skips (if b then 1 else 0) (step s (path, enter h kids)) later) (sym is))

  -- to the end of an element
  pub skipped : (path : List ℕ) (h : Head) (kids : NodesView) (left : List Placed) →
      events ≡ (path, enter h kids) ∷ later → new ≡ step s (path, enter h kids) →
      past step skips 0 s events ≡ all → skips s h ≡ true → left ≡ from_end 0 later →
      past step skips 0 new left ≡ all
  skipped path h kids left come more so_far is at_end =
      ap (past step skips 0 new) at_end
      ∙ (sym (skipped_is step skips new later)
      ∙ (ap (λ t. past step skips 1 t later) more
      ∙ (ap (λ b. past step skips (if b then 1 else 0) (step s (path, enter h kids)) later) (sym is)
      ∙ (ap (past step skips 0 s) (sym come) ∙ so_far))))
