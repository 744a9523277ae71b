-- The root alone, of open elements.
use Rattle.std.proofs.Common.{◌≡◌, ◌<◌, ◌≤◌, arith, List, [], ◌∷◌, length, refl}
use Rattle.html_page_stack.specs.OpenElements.{OpenElement, root_alone}

-- it is that of the elements around the current node
pub alone_past : (o : OpenElement) (os : List OpenElement) → 1 < length (o ∷ os) →
    root_alone (o ∷ os) ≡ root_alone os
alone_past o [] h = absurd (omega (arith, h))
alone_past o (p ∷ ps) h = refl

pub alone_is : (os : List OpenElement) → length os ≤ 1 → root_alone os ≡ os
alone_is [] h = refl
alone_is (o ∷ []) h = refl
alone_is (o ∷ p ∷ ps) h = absurd (omega (arith, h))
