use Rattle.std.{proofs.Common.{ap, ◌∙◌}, specs.Hash.{fed_along}}
use Rattle.html_names_core.specs.Hashes.{pairs_writes}
use Rattle.html_values_css.proofs.Equals.{list_hashed}
use Rattle.html_values_css.proofs.properties.PropertiesHash.hash.Goals as goal

pub returns : goal.returns
returns g c =
    fed_along g.H.Hasher.write c.args.state.now c.hash.new.state
    (list_hashed c.as_slice.result.now ∙ ap pairs_writes c.as_slice.ensures.all) c.hash.ensures
