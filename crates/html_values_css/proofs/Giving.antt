-- Warnings that a sink is handed, one list after another.
use Rattle.std.proofs.Common.{◌≡◌, List, [], ◌∷◌, ◌++◌, Result, Ok, Err, inl, inr, sym, ap, subst, ◌∙◌, append_assoc, append-nil, Vec, Global, Option}
use base.Fml.{GName}
use Rattle.std.specs.declared.alloc.AllocError.{AllocError}
use Rattle.html_values_css.proofs.Beginnings.{StartsWith-same, StartsWith-append, StartsWith-trans}
use Rattle.html_values_css.specs.Sink.{SinkAnswers, TakesWarning, Given, Interrupted, Hands, KeepsWarning, AddsAtMost, StartsWith, GivenVector, HandsBegin}
use Rattle.html_values_css.specs.declared.sink.Warning.{Warning}

module _ {S : Type 0} (takes : SinkAnswers S) where
  pub handed_none : {A E : Type 0} (r : Result A E) (old new : S) (ws : List Warning)
      → ws ≡ [] → Hands takes r old ws new → new ≡ old
  handed_none (Ok a) old new [] none same = same
  handed_none (Ok a) old new (w ∷ ws) none given = absurd (cc)
  handed_none (Err e) old new [] none same = same
  handed_none (Err e) old new (w ∷ ws) none given = absurd (cc)

  pub not_begun : (old new : S) (ws : List Warning) → new ≡ old → Interrupted takes old ws new
  not_begun old new [] same = same
  not_begun old new (w ∷ ws) same = inl same

  given_then : (old middle new : S) (first second : List Warning)
      → Given takes old first middle → Given takes middle second new
      → Given takes old (first ++ second) new
  given_then old middle new [] second same given = subst (λ s. Given takes s second new) same given
  given_then old middle new (w ∷ ws) second (next, took, left) given =
      (next, took, given_then next middle new ws second left given)

  interrupted_then : (old middle new : S) (first second : List Warning)
      → Given takes old first middle → Interrupted takes middle second new
      → Interrupted takes old (first ++ second) new
  interrupted_then old middle new [] second same broken =
      subst (λ s. Interrupted takes s second new) same broken
  interrupted_then old middle new (w ∷ ws) second (next, took, left) broken =
      inr (inr (next, took, interrupted_then next middle new ws second left broken))

  pub interrupted_more : (old new : S) (first second : List Warning)
      → Interrupted takes old first new → Interrupted takes old (first ++ second) new
  interrupted_more old new [] second same = not_begun old new second same
  interrupted_more old new (w ∷ ws) second (inl same) = inl same
  interrupted_more old new (w ∷ ws) second (inr (inl refused)) = inr (inl refused)
  interrupted_more old new (w ∷ ws) second (inr (inr (next, took, left))) =
      inr (inr (next, took, interrupted_more next new ws second left))

  pub hands_then : {A E : Type 0} (r : Result A E) (old middle new : S)
      (first second : List Warning)
      → Given takes old first middle → Hands takes r middle second new
      → Hands takes r old (first ++ second) new
  hands_then (Ok a) = given_then
  hands_then (Err e) = interrupted_then

  pub given_on : (old new : S) (handed ws : List Warning) → handed ≡ ws
      → Given takes old handed new → Given takes old ws new
  given_on old new handed ws same given = subst (λ list. Given takes old list new) same given

  pub refused_on : {A E : Type 0} (r : Result A E) (e : E) (old new : S) (handed ws : List Warning)
      → handed ≡ ws → r ≡ Err e → Interrupted takes old handed new → Hands takes r old ws new
  refused_on r e old new handed ws same is broken =
      subst (λ q. Hands takes q old ws new) (sym is)
      (subst (λ list. Interrupted takes old list new) same broken)

-- a vector that was given warnings has them at its end
pub given_vector : GivenVector
given_vector borrow old new [] same = ap (λ v. v.items) same ∙ sym (append-nil old.items)
given_vector borrow old new (w ∷ ws) (next, took, left) =
    given_vector borrow next new ws left ∙ ap (λ list. list ++ ws) took.gives
    ∙ append_assoc old.items (w ∷ []) ws

-- an empty vector that was given warnings has these
pub given_empty : (borrow : Vec Warning Global → Option GName) (fresh old new : Vec Warning Global)
    (ws handed : List Warning) → fresh.items ≡ [] → old ≡ fresh
    → Given (TakesWarning (λ v. v.items) borrow (λ v w r u. KeepsWarning v.items w r u.items)) old ws new
    → handed ≡ new.items → handed ≡ ws
given_empty borrow fresh old new ws handed none is given same =
    same ∙ given_vector borrow old new ws given ∙ ap (λ v. v.items ++ ws) is
    ∙ ap (λ list. list ++ ws) none

begins : (old new : List Warning) (w : Warning) → AddsAtMost old new w → StartsWith new old
begins old new w (inl same) = StartsWith-same old new same
begins old new w (inr more) = rw more (StartsWith-append old (w ∷ []))

module _ {S : Type 0} (warnings : S → List Warning) (borrow : S → Option GName)
    (emit_gives : SinkAnswers S) where
  abbrev Begins : S → S → Type 0
  Begins old new = StartsWith (warnings new) (warnings old) × (borrow new ≡ borrow old)

  same_begins : (old new : S) → new ≡ old → Begins old new
  same_begins old new same =
      (StartsWith-same (warnings old) (warnings new) (ap warnings same), ap borrow same)

  step_begins : (old new : S) (w : Warning) (r : Result (Unit {0}) AllocError)
      → TakesWarning warnings borrow emit_gives old w r new → Begins old new
  step_begins old new w r took =
      (begins (warnings old) (warnings new) w took.adds, took.same_borrow)

  then_begins : (old middle new : S) → Begins old middle → Begins middle new → Begins old new
  then_begins old middle new first second = (
    StartsWith-trans (warnings new) (warnings middle) (warnings old) second.0 first.0,
    second.1 ∙ first.1,
  )

  given_begins : (old new : S) (ws : List Warning)
      → Given (TakesWarning warnings borrow emit_gives) old ws new → Begins old new
  given_begins old new [] same = same_begins old new same
  given_begins old new (w ∷ ws) (next, took, left) =
      then_begins old next new (step_begins old next w (Ok tt) took) (given_begins next new ws left)

  interrupted_begins : (old new : S) (ws : List Warning)
      → Interrupted (TakesWarning warnings borrow emit_gives) old ws new → Begins old new
  interrupted_begins old new [] same = same_begins old new same
  interrupted_begins old new (w ∷ ws) (inl same) = same_begins old new same
  interrupted_begins old new (w ∷ ws) (inr (inl (e, took))) = step_begins old new w (Err e) took
  interrupted_begins old new (w ∷ ws) (inr (inr (next, took, left))) =
      then_begins old next new (step_begins old next w (Ok tt) took)
      (interrupted_begins next new ws left)

  pub hands_begin : HandsBegin warnings borrow emit_gives
  hands_begin (Ok u) = given_begins
  hands_begin (Err e) = interrupted_begins
