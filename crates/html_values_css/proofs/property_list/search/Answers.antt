use Rattle.std.proofs.{Common.{rules, chars}, lemmas.Fn.{always_returns_same}}
use Rattle.html_values_css.proofs.{Listing.{searched}, Names.{by_name_total}}
use Rattle.html_values_css.specs.Properties.{by_name, property_name, property_view}
use Rattle.html_values_css.proofs.property_list.search.Goals as goal

pub returns : goal.returns
returns c =
    let name = chars c.args.name.now in
    let facts = c.binary_search_by.ensures in
    let found = facts.position (λ p. by_name (property_name p) name)
    (always_returns_same _ _ _ (λ a r f called. (search rules, search rules))) in
    searched by_name_total property_view c.args.list.now name c.binary_search_by.result c.requires
    facts.bound found
