use Rattle.std.{proofs.Common.{◌≡◌, drop, map}, specs.List.{list_any}}
use Rattle.html_dom_tree.specs.Views.{pair_view}
use Rattle.html_page_stack.specs.OpenElements.{says_html}
use Rattle.html_page_stack.proofs.element.says_html.Given as goal

abbrev pub invariant-loop-attr : goal.invariant-loop-attr
invariant-loop-attr l =
    list_any says_html (map pair_view (drop l.attr-index l.attr-items))
    ≡ list_any says_html (map pair_view l.attr-items)
