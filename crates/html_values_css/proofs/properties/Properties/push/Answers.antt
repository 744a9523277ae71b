use Rattle.std.proofs.Common.{chars}
use Rattle.html_names_core.specs.Texts.{text_view}
use Rattle.html_values_css.{proofs.Names.{put_listed}, specs.Properties.{items_of, list_view}}
use Rattle.html_values_css.proofs.properties.Properties.push.Goals as goal

pub invariant_of-self : goal.invariant_of-self
invariant_of-self c =
    put_listed c.put.result (list_view (items_of c.self.inside.list))
    (list_view (items_of c.put.new.self)) (chars c.args.name.now) (text_view c.args.value)
    c.self.invariant c.put.ensures.ok c.put.ensures.kept
