use Rattle.std.proofs.Common.{◌≡◌, map, take}
use Rattle.html_dom_tree.specs.Views.{pair_view}
use Rattle.html_dom_tree.proofs.attrs.HtmlAttrs.try_clone.Given as goal

abbrev pub invariant-loop-attr : goal.invariant-loop-attr
invariant-loop-attr l = map pair_view l.pairs.items ≡ map pair_view (take l.attr-index l.attr-items)
