use Rattle.std.proofs.Common.{map}
use Rattle.html_dom_tree.specs.Views.{pair_view}
use Rattle.html_dom_flat.specs.Numbering.{Grows, ArePairsOf}
use Rattle.html_dom_flat.proofs.numbering.numbered_attrs.Given as goal

abbrev pub invariant-loop-attr : goal.invariant-loop-attr
invariant-loop-attr l = record {
  grows : Grows l.fn.names l.names;
  pairs : ArePairsOf l.names l.pairs.items (map pair_view l.yielded);
}
