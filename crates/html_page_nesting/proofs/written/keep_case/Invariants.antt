use Rattle.std.proofs.Common.{◌≡◌, drop, map}
use Rattle.html_dom_tree.specs.Views.{pair_view}
use Rattle.html_page_nesting.specs.WrittenTags.{capital_attrs, keep_case}
use Rattle.html_page_nesting.proofs.written.keep_case.Given as goal

abbrev pub invariant-loop-attr : goal.invariant-loop-attr
invariant-loop-attr l =
    keep_case (capital_attrs l.space) (map pair_view (drop l.attr-index l.attr-items))
    ≡ keep_case (capital_attrs l.space) (map pair_view l.attr-items)
