use Rattle.std.proofs.Common.{ap, map-id, sym, ◌∙◌}
use Rattle.std.proofs.lemmas.Iterator.{YieldsList-from_chars, Consumers.{YieldsList-end}}
use Rattle.std.specs.List.{fold}
use Rattle.html_page_nesting.specs.ScriptTexts.{kept_behind, kept_of}
use Rattle.html_page_nesting.proofs.script.ScriptText.behind_text.Goals as goal

pub returns : goal.returns
returns c =
    let end = YieldsList-end (YieldsList-from_chars c.args.text.now c.utf8.text cc)
    c.loop-c.yielded _ c.loop-c.yielded_by _ _ c.in-None.is c.next.ensures.steps in
    c.loop-c.invariant ∙ ap (fold kept_behind (kept_of c.args.self))
    (sym (map-id c.loop-c.yielded) ∙ end.0)
