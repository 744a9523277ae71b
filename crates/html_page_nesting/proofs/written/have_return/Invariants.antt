use Rattle.std.{proofs.Common.{◌≡◌, drop, map}, specs.List.{list_any}}
use Rattle.html_dom_tree.specs.Views.{pair_view}
use Rattle.html_page_nesting.specs.WrittenTexts.{has_return}
use Rattle.html_page_nesting.proofs.written.have_return.Given as goal

abbrev pub invariant-loop-attr : goal.invariant-loop-attr
invariant-loop-attr l =
    list_any (λ a. has_return a.1) (map pair_view (drop l.attr-index l.attr-items))
    ≡ list_any (λ a. has_return a.1) (map pair_view l.attr-items)
