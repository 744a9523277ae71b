use Rattle.typst_html_encode.proofs.IndentsCollapse.{content_collapses, body_collapses}
use Rattle.typst_html_encode.proofs.laws.indents_collapse.Goals as goal

pub returns-clause-content : goal.returns-clause-content
returns-clause-content c = content_collapses

pub returns-clause-body : goal.returns-clause-body
returns-clause-body c = body_collapses
