use Rattle.std.specs.Hash.{fed_along}
use Rattle.html_dom_tree.proofs.Hashed.{hashed}
use Rattle.html_dom_tree.proofs.attrs.HtmlAttrsHash.hash.Goals as goal

pub returns : goal.returns
returns g c =
    let pairs = c.args.self.now.0.items in
    fed_along g.H.Hasher.write c.args.state.now c.hash.new.state (hashed pairs) c.hash.ensures
