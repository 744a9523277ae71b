use Rattle.html_names_core.proofs.Equals.{same_law}
use Rattle.html_dom_tree.specs.{FrameEqual.{frame_discrete}, FrameViews.{frame_view}}
use Rattle.html_dom_tree.proofs.laws.equal_frames.Goals as goal

pub returns : goal.returns
returns c = same_law frame_view frame_discrete c.args.a.now c.args.b.now _ c.eq.ensures
