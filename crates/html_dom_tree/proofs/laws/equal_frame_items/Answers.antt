use Rattle.html_names_core.proofs.Equals.{same_law}
use Rattle.html_dom_tree.specs.{FrameEqual.{frame_item_discrete}, FrameViews.{frame_item_view}}
use Rattle.html_dom_tree.proofs.laws.equal_frame_items.Goals as goal

pub returns : goal.returns
returns c = same_law frame_item_view frame_item_discrete c.args.a.now c.args.b.now _ c.eq.ensures
