use Rattle.std.proofs.Common.{[], ◌∷◌, chars, refl, ap, ◌∙◌, rules}
use Rattle.html_links.proofs.TakenFragments.{none_unless, some_unless}
use Rattle.html_links.proofs.indicated.unless_empty.Goals as goal

pub returns-then-is_empty : goal.returns-then-is_empty
returns-then-is_empty c =
    none_unless c.args.text.now (chars c.args.text.now) (search rules) refl

pub returns-in_ok-from_str : goal.returns-in_ok-from_str
returns-in_ok-from_str c =
    ap (λ bs. chars bs ∷ []) c.in_ok-from_str.ensures.ok
    ∙ some_unless c.args.text.now (chars c.args.text.now) c.utf8.text (search rules) refl
