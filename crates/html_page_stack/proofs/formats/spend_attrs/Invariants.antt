use Rattle.std.proofs.Common.{◌≡◌, drop, map}
use Rattle.html_dom_tree.specs.Views.{pair_view}
use Rattle.html_page_stack.specs.Copies.{attrs_size, spent}
use Rattle.html_page_stack.proofs.formats.spend_attrs.Given as goal

abbrev pub invariant-loop-attr : goal.invariant-loop-attr
invariant-loop-attr l = spent l.left (attrs_size (map pair_view (drop l.attr-index l.attr-items)))
    ≡ spent l.fn.spare (attrs_size (map pair_view l.attr-items))
