use Rattle.std.{proofs.Common.{◌≡◌, ◌++◌, codes, drop}, specs.List.{flat_map}}
use Rattle.html_names_core.specs.Texts.{texts_view}
use Rattle.typst_html_export.proofs.head.push_others.Given as goal

abbrev pub invariant-loop-other : goal.invariant-loop-other
invariant-loop-other l =
    let left = texts_view (drop l.other-index l.others) in
    l.text ++ flat_map (λ t. codes ", " ++ t) left
    ≡ l.initial.text ++ flat_map (λ t. codes ", " ++ t) (texts_view l.others)
