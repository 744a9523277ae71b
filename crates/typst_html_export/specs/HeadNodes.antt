-- Nodes of the caller's for the head of a document: which of them can be written there, and which
-- leave the document's text readable.
use Rattle.std.specs.Prelude.{◌≡◌, true, false, List, []}
use Rattle.html_dom_tree.specs.{FrameFree.{NodesAreFrameFree}, Styled.{styled_nodes}, Tree.{NodeView, NodesView}, Views.{nodes_of}}
use Rattle.html_dom_document.specs.Documents.{InfoView}
use Rattle.html_flow_convert.specs.Items.{ItemsView, no_items}
use Rattle.typst_html_encode.specs.{ExportFaults.{nodes_faults}, FrameWriters.{Frames}, Indented.{NodesEndWell}}
use Rattle.typst_html_encode.specs.declared.options.HtmlOptions.{HtmlOptions}
use Rattle.typst_html_spaces.specs.{CleanItems.{are_clean_items}, DeepNodes.{Wanted, HoldsOfAll}, PlainFlow.{is_plain_flow}}
use Rattle.typst_html_export.specs.{CleanInfo.{is_clean_info}, Exported.{linked_root_with_head, root_faults}}

abbrev pub elements_and_texts : Wanted
elements_and_texts = record {
  head = λ h b. Unit {0};
  text = λ p s. Unit {0};
  tag = λ t. ⊥;
  frame = ⊥;
}

-- there is neither a tag nor a frame at any depth, so that no anchor changes the nodes
abbrev pub AreElementsAndTexts : NodesView → Type 0
AreElementsAndTexts = HoldsOfAll elements_and_texts false

-- nodes of a head that can be written: elements and texts without a fault, once css is in `style`
pub record HeadIsClean (frames : Frames) (options : HtmlOptions) (ns : NodesView) : Type 0 where
  pub alone : AreElementsAndTexts ns
  pub written : nodes_faults frames false options.pretty (styled_nodes ns) ≡ []

-- nodes of a head that can be read: there is no frame, and pretty writing puts no raw text on lines
-- of its own that ends in a closing tag without its last character
pub record HeadIsReadable (options : HtmlOptions) (ns : NodesView) : Type 0 where
  pub frame_free : NodesAreFrameFree ns
  pub ends_well : options.pretty ≡ true → NodesEndWell true ns

-- a document made from clean items in plain flow, with clean information and such nodes in its
-- head, can be written
abbrev pub CleanHeadsAreWritten : Type 0
CleanHeadsAreWritten = (frames : Frames) (options : HtmlOptions) (info : InfoView)
    (head : List NodeView) (items : ItemsView) → is_plain_flow items ≡ true →
    are_clean_items items ≡ true → is_clean_info info ≡ true →
    HeadIsClean frames options (nodes_of head) →
    root_faults frames options (linked_root_with_head info head items no_items) ≡ []
