-- Walks that hand items to a receiver.
use Rattle.std.proofs.Common.{◌≡◌, List, [], ◌++◌, refl, ap, sym, ◌∙◌, append_assoc}
use Rattle.html_dom_tree.specs.Taking.{Takes}

-- in a walk over all items these are left
pub record Left {A Made : Type 0} (first now : List A → Made) (all left : List A) : Type 0 where
  pub is : (rest : List A) → now (left ++ rest) ≡ first (all ++ rest)

pub all_left : {A Made : Type 0} {first : List A → Made} {all : List A} → Left first first all all
all_left = record { is = λ rest. refl }

pub more_taken : {A Made : Type 0} {first old new : List A → Made} {all left later : List A}
    (here : List A) → left ≡ here ++ later → Left first old all left → Takes old new here →
    Left first new all later
more_taken {old = old} {later = later} here is so_far more = record {
  is = λ rest. more (later ++ rest)
      ∙ (ap old (sym (append_assoc here later rest))
      ∙ (ap (λ ps. old (ps ++ rest)) (sym is) ∙ so_far.is rest));
}

pub all_taken : {A Made : Type 0} {first now : List A → Made} {all left : List A} → left ≡ [] →
    Left first now all left → Takes first now all
all_taken {now = now} none so_far rest = ap (λ ps. now (ps ++ rest)) (sym none) ∙ so_far.is rest

-- items that are taken after others, and items that are the same
module _ {A Made : Type 0} (old new : List A → Made) where
  pub both_taken : (between : List A → Made) (xs ys : List A) → Takes old between xs →
      Takes between new ys → Takes old new (xs ++ ys)
  both_taken between xs ys first second rest =
      second rest ∙ (first (ys ++ rest) ∙ ap old (sym (append_assoc xs ys rest)))

  pub same_taken : (xs ys : List A) → Takes old new xs → xs ≡ ys → Takes old new ys
  same_taken xs ys taken is rest = taken rest ∙ ap (λ zs. old (zs ++ rest)) is
