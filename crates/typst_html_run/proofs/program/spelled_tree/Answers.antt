use Rattle.std.proofs.lemmas.Result.{err_from_is_err_and}
use Rattle.serde_json.specs.View.{view}
use Rattle.typst_html_run.{proofs.Answering.{text_said, name_said}, specs.Answers.{tree_answer, tree_refusals, tree_text}}
use Rattle.typst_html_json.specs.{NameRefusals.{element_refusals}, Spelled.{spelled_element}}
use Rattle.typst_html_run.proofs.program.spelled_tree.Goals as goal

pub returns-in_err-tree : goal.returns-in_err-tree
unfolding tree_answer
returns-in_err-tree c =
    let failed = err_from_is_err_and c.from_residual.result c.from_residual.ensures.1 in
    rw (failed.1, failed.2)
    (name_said element_refusals (tree_refusals c.args.pretty) (tree_text c.args.pretty)
    (spelled_element (view c.args.value)) c.in_err-tree.field-0.0 c.in_err-tree.ensures)

pub returns : goal.returns
unfolding tree_answer
returns c =
    let read = c.in_ok-tree.ensures in
    rw read.spelled
    (text_said (element_refusals read.root) (tree_refusals c.args.pretty read.root)
    (tree_text c.args.pretty read.root) c.tree_text.result read.clean
    (c.tree_text.ensures read.root read.nodes))
