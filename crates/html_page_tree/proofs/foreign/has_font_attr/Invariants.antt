use Rattle.std.{proofs.Common.{◌≡◌, drop, map}, specs.List.{list_any}}
use Rattle.html_dom_tree.specs.Views.{pair_view}
use Rattle.html_page_names.specs.ForeignNames.{is_font_attr}
use Rattle.html_page_tree.proofs.foreign.has_font_attr.Given as goal

abbrev pub invariant-loop-attr : goal.invariant-loop-attr
invariant-loop-attr l =
    list_any (λ a. is_font_attr a.0) (map pair_view (drop l.attr-index l.attr-items))
    ≡ list_any (λ a. is_font_attr a.0) (map pair_view l.attr-items)
