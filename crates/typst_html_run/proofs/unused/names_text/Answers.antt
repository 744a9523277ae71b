use Rattle.std.proofs.Common.{◌≡◌, ℕ, List, [], ◌∷◌, false, refl, ap, ◌∙◌}
use Rattle.serde_json.specs.Written.{compact_text, has_float}
use Rattle.typst_html_run.specs.{UnusedInformation.{unused_data}, Words.{texts_of}}
use Rattle.typst_html_run.proofs.unused.names_text.Goals as goal

no_float : (names : List (List ℕ)) → has_float (unused_data names) ≡ false
no_float [] = refl
no_float (name ∷ names) = no_float names

pub returns : goal.returns
returns c =
    c.in_ok-to_string.ensures.text
    (ap has_float c.in_ok-value.ensures ∙ no_float (texts_of c.args.names.now))
    ∙ ap compact_text c.in_ok-value.ensures
