use Rattle.std.proofs.Common.{ℕ, List, chars, subst}
use Rattle.html_names_core.{proofs.Held.{attr_texts}, specs.Held.{IsLookup}}
use Rattle.html_names_core.proofs.html_attr.place_of.Goals as goal

pub returns : goal.returns
returns c = subst (λ (names : List (List ℕ)). IsLookup names (chars c.args.text.now) c.place_in.result)
    attr_texts c.place_in.ensures
