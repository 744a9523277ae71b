use Rattle.std.proofs.Common.{chars}
use Rattle.html_values_css.{proofs.Names.{out_listed}, specs.Properties.{items_of, list_view}}
use Rattle.html_values_css.proofs.properties.Properties.remove.Goals as goal

pub invariant_of-self : goal.invariant_of-self
invariant_of-self c = out_listed (list_view (items_of c.self.inside.list))
    (list_view (items_of c.take_out.new.self)) (chars c.args.name.now) c.self.invariant
    c.take_out.ensures
