use Rattle.html_names_core.proofs.Equals.{same_law}
use Rattle.html_dom_tree.specs.{FrameViews.{html_frame_view}, NodeEqual.{html_frame_discrete}}
use Rattle.html_dom_tree.proofs.laws.equal_html_frames.Goals as goal

pub returns : goal.returns
returns c = same_law html_frame_view html_frame_discrete c.args.a.now c.args.b.now _ c.eq.ensures
