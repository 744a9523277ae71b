use Rattle.std.proofs.Common.{◌≡◌, ◌∷◌, [], ◌++◌, ◌-◌, suc, take, Some, None, sym, ap, ◌∙◌, rules}
use Rattle.typst_html_json.proofs.JsonPlaces.{closes, goes_not, goes_on, opens, opens_not}
use Rattle.typst_html_json.specs.{JsonPlaces.{begun, innermost_of, move_at}, declared.json_stage.Move.TheVariants.{GoOn, Open, Close}}
use Rattle.typst_html_json.specs.declared.json_stage.Stage.TheVariants.{Behind}
use Rattle.typst_html_json.proofs.json_place.Point.pass.Goals as goal

pub returns-in-None : goal.returns-in-None
returns-in-None c text =
    let here = c.args.self.now.stage in
    let brackets = c.args.self.now.brackets.items in
    let inner : c.copied.result ≡ innermost_of brackets = search rules in
    let move : move_at here (innermost_of brackets) c.args.b ≡ None =
    sym (c.move_at.ensures ∙ ap (λ i. move_at here i c.args.b) inner) ∙ c.in-None.is in
    goes_not here brackets c.args.b text move

pub returns-then-len-ge-MAX_DEPTH : goal.returns-then-len-ge-MAX_DEPTH
returns-then-len-ge-MAX_DEPTH c text =
    let here = c.args.self.now.stage in
    let brackets = c.args.self.now.brackets.items in
    let inner : c.copied.result ≡ innermost_of brackets = search rules in
    let is : c.move_at.result ≡ Some (Open c.in-Some-Open.bracket) = first_of (cc, search rules) in
    let move : move_at here (innermost_of brackets) c.args.b ≡ Some (Open c.in-Some-Open.bracket) =
    sym (c.move_at.ensures ∙ ap (λ i. move_at here i c.args.b) inner) ∙ is in
    opens_not here brackets c.args.b text c.in-Some-Open.bracket move (search rules)

pub returns-in-Some-GoOn : goal.returns-in-Some-GoOn
returns-in-Some-GoOn c text =
    let here = c.args.self.now.stage in
    let brackets = c.args.self.now.brackets.items in
    let inner : c.copied.result ≡ innermost_of brackets = search rules in
    let is : c.move_at.result ≡ Some (GoOn c.in-Some-GoOn.stage) = first_of (cc, search rules) in
    let move : move_at here (innermost_of brackets) c.args.b ≡ Some (GoOn c.in-Some-GoOn.stage) =
    sym (c.move_at.ensures ∙ ap (λ i. move_at here i c.args.b) inner) ∙ is in
    goes_on here brackets c.args.b text c.in-Some-GoOn.stage move

pub returns-in_ok-push-in-Some-Open : goal.returns-in_ok-push-in-Some-Open
returns-in_ok-push-in-Some-Open c text =
    let here = c.args.self.now.stage in
    let brackets = c.args.self.now.brackets.items in
    let bracket = c.in-Some-Open.bracket in
    let inner : c.copied.result ≡ innermost_of brackets = search rules in
    let is : c.move_at.result ≡ Some (Open bracket) = first_of (cc, search rules) in
    let move : move_at here (innermost_of brackets) c.args.b ≡ Some (Open bracket) =
    sym (c.move_at.ensures ∙ ap (λ i. move_at here i c.args.b) inner) ∙ is in
    opens here brackets c.args.b text bracket move (search rules)
    ∙ (ap (λ next. suc (begun next (brackets ++ bracket ∷ []) text)) (sym c.first_stage-self.ensures)
    ∙ ap (λ inside. suc (begun c.first_stage-self.result inside text))
    (sym c.in_ok-push-in-Some-Open.ensures.items))

pub returns-in-Some-Close : goal.returns-in-Some-Close
returns-in-Some-Close c text =
    let here = c.args.self.now.stage in
    let brackets = c.args.self.now.brackets.items in
    let inner : c.copied.result ≡ innermost_of brackets = search rules in
    let is : c.move_at.result ≡ Some Close = first_of (cc, search rules) in
    let move : move_at here (innermost_of brackets) c.args.b ≡ Some Close =
    sym (c.move_at.ensures ∙ ap (λ i. move_at here i c.args.b) inner) ∙ is in
    closes here brackets c.args.b text move
    ∙ ap (λ inside. suc (begun Behind inside text))
    (sym (c.pop.ensures.rest ∙ ap (λ n. take (n - 1) brackets) c.args.self.now.brackets.ok.0))
