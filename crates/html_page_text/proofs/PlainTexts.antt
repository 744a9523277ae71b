-- Parts without the edge that stands last.
use Rattle.std.{proofs.Common.{◌≡◌, Bool, true, false, List, [], ◌∷◌, ◌++◌, refl, ap, ◌∙◌}, specs.Prelude.{if◌then◌else◌}}
use Rattle.html_page_text.specs.{PlainTexts.{is_edge, before_edge}, declared.shown.Shown.{Shown}}

first_of_both : (b : Bool) (x : Shown) (us vs : List Shown) →
    x ∷ (if b then us else vs) ≡ (if b then x ∷ us else x ∷ vs)
first_of_both true x us vs = refl
first_of_both false x us vs = refl

pub before_edge-push : (ps : List Shown) (p : Shown) →
    before_edge (ps ++ p ∷ []) ≡ (if is_edge p then ps else ps ++ p ∷ [])
before_edge-push [] p = refl
before_edge-push (x ∷ []) p = first_of_both (is_edge p) x [] (p ∷ [])
before_edge-push (x ∷ y ∷ ys) p =
    ap (λ l. x ∷ l) (before_edge-push (y ∷ ys) p)
    ∙ first_of_both (is_edge p) x (y ∷ ys) (y ∷ ys ++ p ∷ [])
