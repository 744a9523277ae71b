use Rattle.std.{proofs.Common.{◌≡◌, drop}, specs.Prelude.{option_map}}
use Rattle.html_dom_tree.specs.Views.{nodes_view}
use Rattle.typst_html_export.specs.Assembled.{first_own, own_after}
use Rattle.typst_html_export.proofs.document.first_own.Given as goal

abbrev pub invariant-loop-place : goal.invariant-loop-place
invariant-loop-place l =
    option_map (own_after l.place) (first_own (nodes_view (drop l.place l.nodes)))
    ≡ first_own (nodes_view l.nodes)
