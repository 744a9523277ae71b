use Rattle.std.{proofs.Common.{ap, ◌∙◌}, specs.Prelude.{option_to_list}}
use Rattle.html_dom_tree.specs.Views.{head_of}
use Rattle.html_links.proofs.PutPlaces.{both_put}
use Rattle.html_links.specs.{Indicated.{link_name}, TreeNames.{first_id}, UsedNames.{used_in, with_names}}
use Rattle.html_links.proofs.places.add_element.Goals as goal

pub returns : goal.returns
returns c =
    let h = head_of c.args.element.now in
    both_put (option_to_list (first_id h)) (option_to_list (link_name h.name h.attrs)) _ _ _
    (c.in_ok-add_optional.ensures
    ∙ ap (λ id. with_names (option_to_list id) (used_in c.args.names.now)) c.first_id.ensures)
    (c.in_ok-add_optional-2.ensures
    ∙ ap (λ name. with_names (option_to_list name) (used_in c.add_optional.new.names))
    c.link_name.ensures)
