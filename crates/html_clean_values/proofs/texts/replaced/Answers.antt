use Rattle.std.proofs.Common.{ap, map-id, sym, ◌∙◌}
use Rattle.std.proofs.lemmas.Iterator.{YieldsList-from_chars, Consumers.{YieldsList-end}}
use Rattle.html_clean_values.specs.Replaced.{replaced}
use Rattle.html_clean_values.proofs.texts.replaced.Goals as goal

pub returns : goal.returns
returns c =
    let end = YieldsList-end (YieldsList-from_chars c.args.text.now c.utf8.text cc)
    c.loop-c.yielded _ c.loop-c.yielded_by _ _ c.in-None.is c.next.ensures.steps in
    c.into_string.ensures ∙ (c.loop-c.invariant
    ∙ ap replaced (sym (map-id c.loop-c.yielded) ∙ end.0))
