-- What is visible of the body of a document that is written and read.
use Rattle.std.specs.Prelude.{◌≡◌, ℕ, true, false, List, [], Option, Some}
use Rattle.html_names_core.specs.Kinds.{is_raw}
use Rattle.html_dom_tree.specs.{FrameFree.{ElementIsFrameFree}, PlainTree.{nodes_normal}, Styled.{styled_nodes}}
use Rattle.html_dom_tree.specs.Tree.{NodesView, ElementView}
use Rattle.html_dom_shown.specs.{Bodies.{body_children}, Collapsing.{Piece}}
pub use Rattle.html_dom_shown.specs.{Bodies.{tree_body}, SeenBodies.{seen_plains, seen_body, seen_tree}}
use Rattle.typst_html_encode.specs.{ExportFaults.{document_faults}, FrameWriters.{Frames}, Indented.{ElementEndsWell}}
use Rattle.typst_html_encode.specs.{IndentsCollapse.{NodesAreEdged}, Reader.{read}, ReadingBack.{ElementIsNamed}, Text.{document_text}}
use Rattle.typst_html_encode.specs.declared.options.HtmlOptions.{HtmlOptions}
use Rattle.html_flow_convert.specs.{Converted.{RoleText, converted_nodes}, Items.{ItemsView}}
use Rattle.html_flow_convert.specs.declared.convert.{ConversionLevel.TheVariants.{Block}, Whitespace.TheVariants.{Normal}}
use Rattle.typst_html_spaces.specs.{ItemText.{items_text}, PlainFlow.{is_plain_flow}}

abbrev pub seen_text : (text : List ℕ) → Option (List Piece)
seen_text text = seen_tree (read text)

-- a root that can be read back
pub record CanBeRead (frames : Frames) (options : HtmlOptions) (e : ElementView) : Type 0 where
  pub not_raw : is_raw e.0.name ≡ false
  pub named : ElementIsNamed e
  pub frame_free : ElementIsFrameFree e
  pub ends_well : ElementEndsWell true e
  pub clean : document_faults frames options e ≡ []

-- what is visible of the body of the text is what is visible of the body, if what has indents there
-- is a border
abbrev pub BodyIsSeen : Type 0
BodyIsSeen = (frames : Frames) (options : HtmlOptions) (e : ElementView) (body : NodesView) →
    CanBeRead frames options e → body_children e.1 ≡ Some body → NodesAreEdged body →
    seen_text (document_text frames options e) ≡ Some (seen_plains (nodes_normal body))

-- exactly the text of items in plain flow is visible in the text, plain or pretty, of a document
-- whose body is made of them
abbrev pub ItemsAreSeen : Type 0
ItemsAreSeen = (frames : Frames) (options : HtmlOptions) (e : ElementView) (role : RoleText)
    (items : ItemsView) → is_plain_flow items ≡ true → CanBeRead frames options e →
    body_children e.1 ≡ Some (styled_nodes (converted_nodes Block Normal role items)) →
    seen_text (document_text frames options e) ≡ Some (items_text items)
