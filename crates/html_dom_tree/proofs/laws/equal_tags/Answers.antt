use Rattle.html_names_core.proofs.Equals.{same_law}
use Rattle.html_dom_tree.specs.{FrameViews.{tag_view}, NodeEqual.{tag_discrete}}
use Rattle.html_dom_tree.proofs.laws.equal_tags.Goals as goal

pub returns : goal.returns
returns c = same_law tag_view tag_discrete c.args.a.now c.args.b.now _ c.eq.ensures
