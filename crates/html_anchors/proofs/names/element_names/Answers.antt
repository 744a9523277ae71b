use Rattle.std.proofs.Common.{map, ap, ◌∙◌, rules}
use Rattle.html_names_core.specs.{Names.{stands_in}, Texts.{text_view}}
use Rattle.html_links.proofs.Gathering.{with-all}
use Rattle.html_links.specs.{Distinct.{names_view}, TreeNames.{with_used_name}, UsedNames.{used_in, with_names}}
use Rattle.html_anchors.proofs.NumberedNames.{all_put, put_in_turn}
use Rattle.html_anchors.proofs.names.element_names.Goals as goal

pub loop-name-init : goal.loop-name-init
loop-name-init c =
    let names = names_view c.deref-name-items.result.now in
    ap (λ keys. with_names names (stands_in (map text_view keys))) c.new-names.ensures
    ∙ with-all names

pub loop-name-preserved : goal.loop-name-preserved
loop-name-preserved c =
    let used = used_in c.loop-name.names.used in
    put_in_turn c.deref-name-items.result.now c.loop-name.name-index c.name-item.result used
    (used_in c.put.new.self.used) _ (search rules) c.loop-name.invariant
    (c.in_ok-put.ensures ∙ ap (λ x. with_used_name (text_view x.now) used) c.name-item.is)

pub returns : goal.returns
returns c =
    all_put c.deref-name-items.result.now c.loop-name.name-index
    (used_in c.loop-name.names.used) _ (search rules) c.loop-name.invariant
    ∙ (ap (λ names. stands_in (names_view names)) c.deref-name-items.ensures.value
    ∙ ap stands_in c.in_ok-listed_names.ensures)
