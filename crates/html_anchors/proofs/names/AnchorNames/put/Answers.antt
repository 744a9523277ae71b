use Rattle.std.proofs.Common.{chars}
use Rattle.html_links.specs.UsedNames.{used_in}
use Rattle.html_anchors.proofs.Numbers.{used_below_more}
use Rattle.html_anchors.proofs.names.AnchorNames.put.Goals as goal

pub invariant_of-self-2 : goal.invariant_of-self-2
invariant_of-self-2 c =
    let names = c.args.self.now in
    record {
      counted = λ bs n e. used_below_more (chars bs) (used_in names.used)
          (used_in c.put_in_use.new.used) n c.put_in_use.ensures.grows (names.counted bs n e);
    }
