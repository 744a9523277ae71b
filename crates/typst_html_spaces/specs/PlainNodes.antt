-- Nodes of plain flow: elements of plain names alone, and no frame.
use Rattle.std.specs.Prelude.{◌≡◌, ℕ, Bool, true, false, List, codes, bytes_eq}
use Rattle.html_names_core.specs.Kinds.{is_raw}
use Rattle.html_dom_tree.specs.{FrameFree.{NodesAreFrameFree}, Styled.{styled_nodes}, Tree.{NodesView}}
use Rattle.typst_html_encode.specs.{Indented.{NodesEndWell}, IndentsCollapse.{NodesAreEdged}}
use Rattle.html_flow_convert.specs.{Converted.{RoleText, converted_nodes}, Items.{ItemsView}}
use Rattle.html_flow_convert.specs.declared.convert.{ConversionLevel.TheVariants.{Block}, Whitespace.TheVariants.{Normal}}
use Rattle.typst_html_spaces.specs.{DeepNodes.{HeadsAlone}, PlainFlow.{is_plain_name, is_plain_flow}}

-- nodes that are plain at any depth
abbrev pub ArePlainNodes : NodesView → Type 0
ArePlainNodes = HeadsAlone (λ h. is_plain_name h.name ≡ true)

-- items in plain flow become such nodes, and in them what has indents is a border
abbrev pub PlainFlowMakesPlainNodes : Type 0
PlainFlowMakesPlainNodes = (role : RoleText) (items : ItemsView) → is_plain_flow items ≡ true →
    ArePlainNodes (converted_nodes Block Normal role items)
    × NodesAreEdged (styled_nodes (converted_nodes Block Normal role items))

-- such nodes can be read back: they have no frame and no raw element
abbrev pub PlainNodesCanBeRead : Type 0
PlainNodesCanBeRead = (ns : NodesView) → ArePlainNodes ns →
    NodesAreFrameFree (styled_nodes ns)
    × ((pretty : Bool) → NodesEndWell pretty (styled_nodes ns))

-- none of them is a document's root or its body
abbrev pub PlainNamesAreInside : Type 0
PlainNamesAreInside = (name : List ℕ) → is_plain_name name ≡ true →
    (bytes_eq name (codes "html") ≡ false) × (bytes_eq name (codes "body") ≡ false)
    × (is_raw name ≡ false)
