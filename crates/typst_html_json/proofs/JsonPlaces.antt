-- One byte of a text that goes on, or does not.
use Rattle.std.proofs.Common.{◌≡◌, ℕ, suc, ◌-◌, ◌<◌, ◌≤◌, List, [], ◌∷◌, ◌++◌, length, take, Some, None, ap, ◌∙◌}
use Rattle.std.{proofs.lemmas.Bool.{le-ltb, lt-ltb}, specs.Prelude.{if◌then◌else◌}}
use Rattle.typst_html_json.specs.JsonPlaces.{begun, behind_byte, first_stage, innermost_of, max_depth, move_at}
use Rattle.typst_html_json.specs.declared.json_stage.{Bracket.{Bracket}, Stage.{Stage}, Move.TheVariants.{GoOn, Open, Close}}
use Rattle.typst_html_json.specs.declared.json_stage.Stage.TheVariants.{Behind}

module _ (here : Stage) (brackets : List Bracket) (b : ℕ) (text : List ℕ) where
  pub goes_not : move_at here (innermost_of brackets) b ≡ None →
      begun here brackets (b ∷ text) ≡ 0
  unfolding begun
  goes_not is = ap (λ move. behind_byte move brackets (λ next inside. begun next inside text)) is

  pub goes_on : (next : Stage) → move_at here (innermost_of brackets) b ≡ Some (GoOn next) →
      begun here brackets (b ∷ text) ≡ suc (begun next brackets text)
  unfolding begun
  goes_on next is =
      ap (λ move. behind_byte move brackets (λ next inside. begun next inside text)) is

  pub closes : move_at here (innermost_of brackets) b ≡ Some Close →
      begun here brackets (b ∷ text)
      ≡ suc (begun Behind (take (length brackets - 1) brackets) text)
  unfolding begun
  closes is = ap (λ move. behind_byte move brackets (λ next inside. begun next inside text)) is

  module _ (bracket : Bracket) (is : move_at here (innermost_of brackets) b ≡ Some (Open bracket))
    where
      pub opens : length brackets < max_depth → begun here brackets (b ∷ text)
          ≡ suc (begun (first_stage bracket) (brackets ++ bracket ∷ []) text)
      unfolding begun
      opens few =
          ap (λ move. behind_byte move brackets (λ next inside. begun next inside text)) is
          ∙ ap (λ v. if v then suc (begun (first_stage bracket) (brackets ++ bracket ∷ []) text) else 0)
          (lt-ltb (length brackets) max_depth few)

      pub opens_not : max_depth ≤ length brackets → begun here brackets (b ∷ text) ≡ 0
      unfolding begun
      opens_not many =
          ap (λ move. behind_byte move brackets (λ next inside. begun next inside text)) is
          ∙ ap (λ v. if v then suc (begun (first_stage bracket) (brackets ++ bracket ∷ []) text) else 0)
          (le-ltb (length brackets) max_depth many)
