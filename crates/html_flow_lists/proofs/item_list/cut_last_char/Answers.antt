use Rattle.html_flow_lists.proofs.Cuts.{popped}
use Rattle.html_flow_lists.proofs.item_list.cut_last_char.Goals as goal

pub returns : goal.returns
returns c =
    popped c.args.text.now c.pop.new.self c.pop.result c.pop.ensures.bytes c.pop.ensures.none
    c.pop.ensures.bound
