-- The ids that are found where one text more is taken.
use Rattle.std.proofs.{Common.{◌≡◌, Bool, true, false, ◌||◌, List, ◌∷◌, refl, ap, sym, ◌∙◌, bytes_eq}, Math.Path.{fun_ext}}
use Rattle.std.proofs.lemmas.Slice.Eq.{bytes_eq-Decides}
use Rattle.html_links.specs.TreeNames.{Name, with_used_name}
use Rattle.html_page_findings.specs.{PlacedTexts.{Placed}, RepeatedIds.{repeated}}

module _ (used : Name → Bool) where
  still_used : (n : Name) → used n ≡ true → with_used_name n used ≡ used
  still_used n passed = fun_ext (λ m. by m (bytes_eq n m) refl)
    where
      by : (m : Name) (b : Bool) → bytes_eq n m ≡ b → (b || used m) ≡ used m
      by m true is = sym (ap used (sym ((bytes_eq-Decides n m).0 is)) ∙ passed)
      by m false is = refl

  pub passed_again : (p : Placed) (ps : List Placed) → used p.1 ≡ true →
      p ∷ repeated used ps ≡ repeated used (p ∷ ps)
  unfolding repeated
  passed_again p ps passed = rw (passed, still_used p.1 passed) refl

  pub passed_first : (p : Placed) (ps : List Placed) → used p.1 ≡ false →
      repeated (with_used_name p.1 used) ps ≡ repeated used (p ∷ ps)
  unfolding repeated
  passed_first p ps new = rw new refl
