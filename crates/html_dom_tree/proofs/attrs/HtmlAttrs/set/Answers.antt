use Rattle.std.proofs.Common.{◌≡◌, Some, sym, ◌∙◌}
use Rattle.html_dom_tree.{proofs.Attributes.{set_there}, specs.Attributes.{first}, specs.Views.{text_view, attrs_view}}
use Rattle.html_dom_tree.proofs.attrs.HtmlAttrs.set.Goals as goal

pub returns-in-Some-clause-ok : goal.returns-in-Some-clause-ok
returns-in-Some-clause-ok c =
    let old = attrs_view c.args.self.now in
    let there : first old c.args.attr ≡ Some (text_view c.in-Some.held.now) =
    sym c.in-Some.ensures.value in
    rw c.in-Some.is at (c.get_mut.follows.holds c.args.value)
    ∙ set_there old (c.args.attr, text_view c.args.value) _ there
