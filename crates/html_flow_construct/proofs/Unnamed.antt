-- The first argument without a name, and what is left without it.
use Rattle.std.proofs.Common.{◌≡◌, ℕ, zero, suc, List, [], ◌∷◌, Bool, true, false, Option, None, Some, option_map, is_some, refl, ap, sym, ◌∙◌, inl, inr}
use Rattle.std.{proofs.lemmas.Bool.{cases_Bool}, proofs.lemmas.Option.{none-some, same_Some}, specs.List.{remove}}
use Rattle.html_names_core.specs.Kinds.{is_void, is_raw}
use Rattle.html_flow_construct.specs.ArgumentPieces.{arg_at, body_faults, unnamed_at}
use Rattle.html_flow_construct.specs.Construct.{ArgView, BodyChoice, arg_view, args_view, arg_body, choice_after, choice_faults, body_choice, choice_from, first_choice, takes}
use Rattle.html_flow_construct.specs.declared.args.Arg.{Arg}
use Rattle.html_flow_convert.specs.Items.{BodyView, absent}

after-from : (a : ArgView) (body : Option BodyView) (span : ℕ) (left : List ArgView)
    → choice_after a (choice_from body span left) ≡ choice_from body span (a ∷ left)
after-from a None span left = refl
after-from a (Some body) span left = refl

faults-from : (body : Option BodyView) (span : ℕ) (left : List ArgView)
    → choice_faults (choice_from body span left) ≡ body_faults body span
faults-from None span left = refl
faults-from (Some body) span left = refl

pub removed_view : (args : List Arg) (k : ℕ) → args_view (remove args k) ≡ remove (args_view args) k
removed_view [] zero = refl
removed_view [] (suc k) = refl
removed_view (a ∷ more) zero = refl
removed_view (a ∷ more) (suc k) = ap (λ l. arg_view a ∷ l) (removed_view more k)

-- where the rest has one
module _ (a : ArgView) (more : List ArgView) (named : is_some a.name ≡ true) where
  rest_at : (k : ℕ) → unnamed_at (a ∷ more) ≡ Some k
      → option_map (λ j. suc j) (unnamed_at more) ≡ Some k
  rest_at k h = rw named at h

  rest_none : unnamed_at (a ∷ more) ≡ None → option_map (λ j. suc j) (unnamed_at more) ≡ None
  rest_none h = rw named at h

still_none : (o : Option ℕ) → option_map (λ j. suc j) o ≡ None → o ≡ None
still_none None h = refl
still_none (Some j) h = absurd (none-some (suc j) (sym h))

module _ (raw : Bool) where
  -- the body that the argument at a place gives
  abbrev pub body_at : List ArgView → ℕ → Option BodyView
  body_at args k = arg_body raw (arg_at args k).value (arg_at args k).span

  -- the choice of that argument
  abbrev pub choice_at : List ArgView → ℕ → BodyChoice
  choice_at args k = choice_from (body_at args k) (arg_at args k).span (remove args k)

  pub none_chosen : (args : List ArgView) → unnamed_at args ≡ None
      → first_choice raw args ≡ takes absent args
  none_chosen [] h = refl
  none_chosen (a ∷ more) h =
      elim (cases_Bool (is_some a.name)) [
        | inl e ↦
            let none = still_none (unnamed_at more) (rest_none a more e h) in
            rw e (ap (choice_after a) (none_chosen more none))
        | inr e ↦ absurd (none-some 0 (sym (rw e at h)))
      ]

  after_one : (a : ArgView) (more : List ArgView) (o : Option ℕ) (k : ℕ) → unnamed_at more ≡ o
      → option_map (λ j. suc j) o ≡ Some k
      → ((j : ℕ) → unnamed_at more ≡ Some j → first_choice raw more ≡ choice_at more j)
      → choice_after a (first_choice raw more) ≡ choice_at (a ∷ more) k
  after_one a more None k u h rest = absurd (none-some k h)
  after_one a more (Some j) k u h rest =
      let after = after-from a (body_at more j) (arg_at more j).span (remove more j) in
      rw (sym (same_Some (suc j) k h)) (ap (choice_after a) (rest j u) ∙ after)

  pub some_chosen : (args : List ArgView) (k : ℕ) → unnamed_at args ≡ Some k
      → first_choice raw args ≡ choice_at args k
  some_chosen [] k h = absurd (none-some k h)
  some_chosen (a ∷ more) k h =
      elim (cases_Bool (is_some a.name)) [
        | inl e ↦
            let after = rest_at a more e k h in
            rw e (after_one a more (unnamed_at more) k refl after (some_chosen more))
        | inr e ↦ rw (e, sym (same_Some 0 k (rw e at h))) refl
      ]

-- what becomes of the arguments of an element that is not void
module _ (name : List ℕ) (args : List ArgView) (plain : is_void name ≡ false) where
  pub no_body : unnamed_at args ≡ None → body_choice name args ≡ takes absent args
  no_body h = rw plain (none_chosen (is_raw name) args h)

  module _ (k : ℕ) (found : unnamed_at args ≡ Some k) where
    first_is : body_choice name args ≡ choice_at (is_raw name) args k
    first_is = rw plain (some_chosen (is_raw name) args k found)

    by_body : (body : Option BodyView) → body_at (is_raw name) args k ≡ body
        → body_choice name args ≡ choice_from body (arg_at args k).span (remove args k)
    by_body body h = first_is ∙ ap (λ o. choice_from o (arg_at args k).span (remove args k)) h

    pub a_body : (body : BodyView) → body_at (is_raw name) args k ≡ Some body
        → body_choice name args ≡ takes body (remove args k)
    a_body body h = by_body (Some body) h

    pub same_faults : choice_faults (body_choice name args)
        ≡ body_faults (body_at (is_raw name) args k) (arg_at args k).span
    same_faults = ap choice_faults first_is
        ∙ faults-from (body_at (is_raw name) args k) (arg_at args k).span (remove args k)
