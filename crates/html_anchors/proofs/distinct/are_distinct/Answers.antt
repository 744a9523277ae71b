use Rattle.std.proofs.Common.{map, ap, ◌∙◌}
use Rattle.html_names_core.specs.{Names.{stands_in}, Texts.{text_view}}
use Rattle.html_links.{proofs.Differing.{are_new, new_distinct}, specs.Distinct.{names_view}}
use Rattle.html_anchors.proofs.distinct.are_distinct.Goals as goal

pub loop-name-init : goal.loop-name-init
loop-name-init c =
    let names = names_view c.args.names.now in
    ap (λ keys. are_new (stands_in (map text_view keys)) names) c.new-used.ensures.empty
    ∙ new_distinct names
