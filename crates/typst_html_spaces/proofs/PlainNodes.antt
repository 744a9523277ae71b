-- Nodes of plain flow can be read back.
use Rattle.std.proofs.Common.{◌≡◌, true, false, codes, refl}
use Rattle.html_names_core.specs.{Displays.{default_display}, Kinds.{is_replaced, is_raw}, Names.{stands_in}}
use Rattle.html_dom_tree.specs.{Styled.{styled_nodes}, Tree.{NodesView}}
use Rattle.html_flow_convert.specs.{Converted.{converted_nodes}, declared.convert.ConversionLevel.TheVariants.{Block}}
use Rattle.html_flow_convert.specs.declared.convert.Whitespace.TheVariants.{Normal}
use Rattle.typst_html_spaces.proofs.{Changed.{weaker}, EdgedNodes.{converted_are_edged}, MadeHeads.{MadeHead, not_named}, MadeNodes.{items_made}}
use Rattle.typst_html_spaces.proofs.{ReadableNodes.{readable_can_be_read, styled_readable}, ReadyElements.{plain_is_not_raw}}
use Rattle.typst_html_spaces.specs.PlainFlow.{is_plain_name}
use Rattle.typst_html_spaces.specs.PlainNodes.{ArePlainNodes, PlainFlowMakesPlainNodes, PlainNodesCanBeRead, PlainNamesAreInside}
use Rattle.typst_html_spaces.specs.ReadableNodes.{AreReadable}

pub makes_plain_nodes : PlainFlowMakesPlainNodes
makes_plain_nodes role items e = (
  weaker MadeHead (λ h. is_plain_name h.name ≡ true) ⊥ (λ h m. m.named)
      (converted_nodes Block Normal role items) false (items_made Block Normal role items e),
  converted_are_edged role items e,
)

-- names

html_not_plain : is_plain_name (codes "html") ≡ false
unfolding is_plain_name is_replaced default_display stands_in
html_not_plain = refl

body_not_plain : is_plain_name (codes "body") ≡ false
unfolding is_plain_name is_replaced default_display stands_in
body_not_plain = refl

pub names_are_inside : PlainNamesAreInside
names_are_inside name e = (
  not_named (codes "html") name html_not_plain e,
  not_named (codes "body") name body_not_plain e,
  plain_is_not_raw name e,
)

-- reading

pub plain_readable : (ns : NodesView) → ArePlainNodes ns → AreReadable ns
plain_readable ns = weaker (λ h. is_plain_name h.name ≡ true) (λ h. is_raw h.name ≡ false) ⊥
    (λ h e. plain_is_not_raw h.name e) ns false

pub can_be_read : PlainNodesCanBeRead
can_be_read ns e =
    readable_can_be_read (styled_nodes ns) (styled_readable ns (plain_readable ns e))
