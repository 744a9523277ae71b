use Rattle.std.proofs.Common.{List, Bool, ap}
use Rattle.html_dom_tree.specs.Views.{nodes_view}
use Rattle.html_flow_convert.specs.{BareSpaces.{nodes_things}, Walks.{walk_view}}
use Rattle.html_flow_convert.specs.declared.line.Last.TheVariants as last
use Rattle.html_flow_convert.proofs.Walking.{all_answered}
use Rattle.html_flow_convert.proofs.answers.answer_for.Goals as goal

pub returns : goal.returns
returns c =
    all_answered (c.clear.new.self.items, last.Border) (walk_view c.see_nodes.new.self)
    (walk_view c.see.new.self) (nodes_things (nodes_view c.args.nodes.now))
    (ap (λ (bs : List Bool). (bs, last.Border)) c.clear.ensures.items) c.in_ok-see_nodes.ensures
    c.in_ok-see.ensures
