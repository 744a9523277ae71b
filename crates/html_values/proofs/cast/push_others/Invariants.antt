use Rattle.std.{proofs.Common.{◌≡◌, ◌++◌, drop}, specs.List.{flat_map}}
use Rattle.html_values.specs.Casts.{list_separator_text}
use Rattle.html_names_core.specs.Texts.{texts_view}
use Rattle.html_values.proofs.cast.push_others.Given as goal

abbrev pub invariant-loop-other : goal.invariant-loop-other
invariant-loop-other l =
    let left = texts_view (drop l.other-index l.others) in
    l.text ++ flat_map (λ t. list_separator_text l.separator ++ t) left
    ≡ l.initial.text
    ++ flat_map (λ t. list_separator_text l.separator ++ t) (texts_view l.others)
