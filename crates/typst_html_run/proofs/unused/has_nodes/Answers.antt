use Rattle.std.proofs.Common.{◌==◌, not, ap, sym, ◌∙◌}
use Rattle.typst_html_run.proofs.Heads.{head_length}
use Rattle.typst_html_run.proofs.unused.has_nodes.Goals as goal

pub returns : goal.returns
returns c = ap not (c.is_empty.ensures ∙ ap (λ n. n == 0) (sym (head_length c.args.nodes.now)))
