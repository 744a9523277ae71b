use Rattle.std.{proofs.Common.{◌≡◌, subst}, specs.Prelude.{IfOk}}
use Rattle.html_names_core.specs.Names.{stands_in}
use Rattle.html_dom_tree.specs.{Tree.{ElementView}, Views.{element_view}}
use Rattle.html_links.{proofs.InDocument.{whole_tree}, specs.Indicated.{element_places}, specs.UsedNames.{used_in}}
use Rattle.html_links.proofs.places.all_place_names.Goals as goal

pub returns : goal.returns
returns c =
    subst (λ (e : ElementView). IfOk c.names_in_part.result (λ names.
    used_in names ≡ stands_in (element_places e))) (whole_tree (element_view c.args.root.now))
    c.names_in_part.ensures
