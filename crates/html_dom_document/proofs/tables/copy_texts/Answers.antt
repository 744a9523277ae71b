use Rattle.std.{proofs.Common.{ap, chars}, specs.BTreeMap.{is_at}}
use Rattle.html_dom_tree.specs.Views.{text_view}
use Rattle.html_dom_document.{proofs.Locations.{same_looked_up}, specs.Introspectors.{location_cmp}}
use Rattle.html_dom_document.proofs.tables.copy_texts.Goals as goal

pub returns : goal.returns
returns c = λ k.
    same_looked_up text_view _ _ (λ p q e. e) (λ x y e. ap chars e)
    (is_at (location_cmp (record { 0 = k }))) c.args.texts.now.entries c.in_ok-copy.copy.entries
    c.in_ok-copy.ensures.cases
