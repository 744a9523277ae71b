-- The texts of a list's items, made one by one.
use Rattle.std.proofs.Common.{◌≡◌, ℕ, List, ◌++◌, Ok, Err, refl, subst}
use Rattle.html_values_css.specs.{CastFaults.{IsFirst}, declared.cast_fault.CastFault.{CastFault}}
use Rattle.html_values.specs.Casts.{CastAnswer, gives, nothing, refuses, answer_faults, Texts, item_answer}

-- texts that are made, and those of the items that are left
abbrev pub after : List (List ℕ) → Texts → Texts
after made (Ok more) = Ok (made ++ more)
after made (Err fault) = Err fault

-- a refusal is no nothing, so it stays
item_faults : (a : CastAnswer) → answer_faults a ≡ answer_faults (item_answer a)
item_faults (gives t) = refl
item_faults nothing = refl
item_faults (refuses fault) = refl

pub item_refusal : (a : CastAnswer) (fault : CastFault) → IsFirst fault (answer_faults a)
    → IsFirst fault (answer_faults (item_answer a))
item_refusal a fault h = subst (IsFirst fault) (item_faults a) h
