use Rattle.std.proofs.Common.{◌∙◌, List, Bool, ap}
use Rattle.html_flow_convert.{proofs.Walking.{one_seen}, specs.Lines.{last_after}, specs.Walks.{walk_view}, specs.declared.line.Last.{Last}}
use Rattle.html_flow_convert.proofs.answers.SpaceWalk.see.Goals as goal

pub returns : goal.returns
returns c =
    let next = c.args.look in
    ap (λ (l : Last). (c.push_answer.new.bare.items, l)) c.after-self.ensures
    ∙ (ap (λ (bs : List Bool). (bs, last_after c.args.self.now.last next)) c.in_ok-push_answer.ensures
    ∙ one_seen (walk_view c.args.self.now) next)
