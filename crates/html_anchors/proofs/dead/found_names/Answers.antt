use Rattle.std.{proofs.Common.{Bool, map, sym, ap, ◌∙◌}, specs.Prelude.{false, if◌then◌else◌}}
use Rattle.html_names_core.specs.{Names.{stands_in}, Texts.{text_view}}
use Rattle.html_dom_tree.specs.Views.{element_view}
use Rattle.html_links.specs.{InDocument.{document_places}, TreeNames.{Name}}
use Rattle.html_anchors.proofs.dead.found_names.Goals as goal

pub returns-then-base_is_elsewhere : goal.returns-then-base_is_elsewhere
unfolding stands_in
returns-then-base_is_elsewhere c =
    let e = element_view c.args.root.now in
    let away = c.base_is_elsewhere.ensures in
    ap (λ keys. stands_in (map text_view keys)) c.new.ensures.empty
    ∙ ap (λ (b : Bool). if b then (λ (n : Name). false) else stands_in (document_places e))
    (sym c.if-base_is_elsewhere.true ∙ away)
