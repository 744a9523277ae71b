use Rattle.html_dom_tree.specs.{FrameEqual.{frame_item_discrete}, FrameViews.{frame_item_view}}
use Rattle.html_names_core.proofs.Equals.{same_result}
use Rattle.html_dom_tree.proofs.frame.FrameItemPartialEq.eq.Goals as goal

pub returns : goal.returns
returns c =
    let a = c.args.self.now in
    let b = c.args.other.now in
    let answer = c.same_frame_item in
    same_result frame_item_view frame_item_discrete a b answer.result answer.ensures
