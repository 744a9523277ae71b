-- The effect of one warning, and of several, on a sink.
use Rattle.std.specs.{Prelude.{◌≡◌, ◌⊎◌, List, [], ◌∷◌, ◌++◌, length, take, Option, Result, Ok, Err, Vec}, declared.alloc.Global.{Global}}
use base.Fml.{GName}
use Rattle.std.specs.declared.alloc.AllocError.{AllocError}
use Rattle.html_values_css.specs.declared.sink.Warning.{Warning}

abbrev pub StartsWith : {A : Type 0} → List A → List A → Type 0
StartsWith xs front = take (length front) xs ≡ front

-- the list has the warning at its end, unless an allocation failed
abbrev pub KeepsWarning : List Warning → Warning → Result (Unit {0}) AllocError → List Warning → Type 0
KeepsWarning old warning (Ok u) new = new ≡ old ++ warning ∷ []
KeepsWarning old warning (Err e) new = new ≡ old

-- the list stays, or has the warning at its end
abbrev pub AddsAtMost : List Warning → List Warning → Warning → Type 0
AddsAtMost old new warning = (new ≡ old) ⊎ (new ≡ old ++ warning ∷ [])

-- what `emit` does to a sink: the sink before, the warning, the outcome, the sink after
abbrev pub SinkAnswers : Type 0 → Type 1
SinkAnswers S = S → Warning → Result (Unit {0}) AllocError → S → Type 0

-- the effect of a warning on a sink: its outcome, its list, and the borrow that it is
pub record TakesWarning {S : Type 0} (warnings : S → List Warning) (borrow : S → Option GName)
    (emit_gives : SinkAnswers S) (old : S) (warning : Warning) (r : Result (Unit {0}) AllocError)
    (new : S) : Type 0 where
  pub gives : emit_gives old warning r new
  pub adds : AddsAtMost (warnings old) (warnings new) warning
  pub same_borrow : borrow new ≡ borrow old

module _ {S : Type 0} (takes : SinkAnswers S) where
  -- the sink received these in order, and refused none
  abbrev pub Given : S → List Warning → S → Type 0
  Given old [] new = new ≡ old
  Given old (w ∷ ws) new = (middle : S) × takes old w (Ok tt) middle × Given middle ws new

  -- the sink refused that warning
  abbrev pub Refuses : S → Warning → S → Type 0
  Refuses old w new = (e : AllocError) × takes old w (Err e) new

  -- the sink received the first of these in order, and then refused one or received no more
  abbrev pub Interrupted : S → List Warning → S → Type 0
  Interrupted old [] new = new ≡ old
  Interrupted old (w ∷ ws) new =
      (new ≡ old) ⊎ (Refuses old w new
      ⊎ ((middle : S) × takes old w (Ok tt) middle × Interrupted middle ws new))

  -- a call that passes these to the sink: all of them on success
  abbrev pub Hands : {A E : Type 0} → Result A E → S → List Warning → S → Type 0
  Hands (Ok a) old ws new = Given old ws new
  Hands (Err e) old ws new = Interrupted old ws new

-- a vector that receives warnings has them at its end, in order
abbrev pub GivenVector : Type 0
GivenVector = (borrow : Vec Warning Global → Option GName) (old new : Vec Warning Global)
    (ws : List Warning)
    → Given (TakesWarning (λ v. v.items) borrow (λ v w r u. KeepsWarning v.items w r u.items)) old ws new
    → new.items ≡ old.items ++ ws

-- after a call that passes warnings to a sink, its list begins as before, and it is the same borrow
abbrev pub HandsBegin : {S : Type 0} → (S → List Warning) → (S → Option GName) → SinkAnswers S → Type 0
HandsBegin {S} warnings borrow emit_gives = (r : Result (Unit {0}) AllocError) (old new : S)
    (ws : List Warning)
    → Hands (TakesWarning warnings borrow emit_gives) r old ws new
    → StartsWith (warnings new) (warnings old) × (borrow new ≡ borrow old)
