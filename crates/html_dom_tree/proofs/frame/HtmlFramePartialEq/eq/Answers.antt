use Rattle.html_dom_tree.specs.{FrameEqual.{html_frame_discrete}, FrameViews.{html_frame_view}}
use Rattle.html_names_core.proofs.Equals.{same_result}
use Rattle.html_dom_tree.proofs.frame.HtmlFramePartialEq.eq.Goals as goal

pub returns : goal.returns
returns c =
    let a = c.args.self.now in
    let b = c.args.other.now in
    let answer = c.same_html_frame in
    same_result html_frame_view html_frame_discrete a b answer.result answer.ensures
