use Rattle.std.proofs.Common.{sym, ◌∙◌}
use Rattle.html_clean_styles.proofs.Names.{same_texts}
use Rattle.html_clean_styles.proofs.declaration.same.Goals as goal

pub returns : goal.returns
returns c = c.eq.ensures ∙ sym (same_texts c.args.a.now c.args.b.now)
