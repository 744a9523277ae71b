-- An output whose root was written.
use Rattle.std.proofs.Common.{◌≡◌, ap, true}
use mathlib.Core.HLevel.{hedberg}
use mathlib.Core.Bool.{Bool-discrete}
use Rattle.html_dom_tree.specs.{Views.{nodes_view, element_view}, declared.node.HtmlElement.{HtmlElement}}
use Rattle.html_dom_document.specs.{Documents.{with_root, is_element_at}, Lending.{with_root_element}, RootPlaces.{set_is_seen}}
use Rattle.html_dom_document.specs.{Views.{output_view}, declared.output.HtmlOutput.{HtmlOutput}}

module _ (output : HtmlOutput) (last : HtmlElement) where
  abbrev made : HtmlOutput
  made = with_root_element output last

  abbrev Stands : Type 0
  Stands = is_element_at (nodes_view made.nodes.items) made.root_index ≡ true

  -- by whichever proof an element stands there, it is one output
  pub one_output : (stands : Stands) →
      record { nodes = made.nodes; root_index = made.root_index; root_is_element = stands } ≡ made
  one_output stands =
      ap (λ (p : Stands). record {
        nodes = made.nodes;
        root_index = made.root_index;
        root_is_element = p;
      }) (hedberg Bool-discrete _ _ stands made.root_is_element)

  pub root_written : output_view made ≡ with_root (output_view output) (element_view last)
  root_written =
      ap (λ ns. record { nodes = ns; root = output.root_index })
      (set_is_seen output.nodes.items output.root_index last)
