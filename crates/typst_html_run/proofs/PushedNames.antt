-- Names behind those that were added.
use Rattle.std.proofs.{Common.{◌≡◌, List, ◌++◌, map, append_assoc, ap, sym, ◌∙◌}, lemmas.List.{map-append}}

pub more : {A B : Type 0} (f : A → B) (old x y : List B) (ns ms : List A) → x ≡ old ++ map f ns
    → y ≡ x ++ map f ms → y ≡ old ++ map f (ns ++ ms)
more f old x y ns ms so_far next =
    next ∙ (ap (λ z. z ++ map f ms) so_far ∙ (append_assoc old (map f ns) (map f ms)
    ∙ ap (λ z. old ++ z) (sym (map-append f ns ms))))
