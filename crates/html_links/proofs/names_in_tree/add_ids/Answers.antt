use Rattle.std.proofs.Common.{◌++◌, [], ◌∷◌, map, refl, ap, ◌∙◌, rules}
use Rattle.html_dom_tree.specs.Views.{pair_view}
use Rattle.html_links.{proofs.Gathering.{gathered, gathered_all, ids_split}, specs.Distinct.{names_view}, specs.TreeNames.{all_ids}}
use Rattle.html_links.proofs.names_in_tree.add_ids.Goals as goal

pub loop-pair-preserved : goal.loop-pair-preserved
loop-pair-preserved c =
    let old = names_view c.loop-pair.names.items in
    let pair = c.pair-item.result in
    gathered (λ ps. all_ids (map pair_view ps)) (λ x xs. ids_split (pair_view x) (map pair_view xs))
    c.deref-pair-items.result.now c.loop-pair.pair-index pair old
    (names_view c.add_id.new.names.items) _ (search rules) c.loop-pair.invariant
    (c.in_ok-add_id.ensures
    ∙ ap (λ x. old ++ all_ids (pair_view x ∷ [])) c.pair-item.is)

pub returns : goal.returns
returns c =
    gathered_all (λ ps. all_ids (map pair_view ps))
    (λ x xs. ids_split (pair_view x) (map pair_view xs)) refl c.deref-pair-items.result.now
    c.loop-pair.pair-index (names_view c.loop-pair.names.items) _ (search rules)
    c.loop-pair.invariant
    ∙ ap (λ ps. names_view c.args.names.now.items ++ all_ids (map pair_view ps))
    c.deref-pair-items.ensures.value
