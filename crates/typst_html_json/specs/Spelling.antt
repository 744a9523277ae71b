-- The outcomes of calls that make something of what a JSON value spells.
use Rattle.std.specs.{Prelude.{◌≡◌, List, [], Result, Ok, IsOkAnd, MatchResult, Vec}, declared.alloc.Global.{Global}}
use Rattle.serde_json.specs.View.{view}
use Rattle.html_dom_flat.specs.{FlatTrees.{tree_nodes}, declared.flat_tree.FlatTree.{FlatTree}}
use Rattle.html_dom_tree.specs.{Tree.{element_node, none, node, ElementView}, Views.{element_view, nodes_view}}
use Rattle.html_dom_tree.specs.declared.node.HtmlElement.{HtmlElement}
use Rattle.html_dom_document.specs.Views.{info_view}
use Rattle.html_flow_convert.specs.{Items.{ItemsView}, Views.{items_view}, declared.item.Pair.{Pair}}
use Rattle.typst_html_json.specs.{LeftForms.{Left, IsLeft}, NameRefusals.{Refusal, element_refusals, items_refusals}, Refusals.{IsFirst}}
use Rattle.typst_html_json.specs.SpelledDocuments.{Spelling, DocumentPartsView, names_refusals}
use Rattle.typst_html_json.specs.declared.documents.{DocumentParts.{DocumentParts}, SpelledDocument.{SpelledDocument}}
use Rattle.typst_html_json.specs.declared.fault.{Fault.{Fault}, Fault.TheVariants.{OutOfMemory, BadInput, Refused}}

-- the value leaves the form, or the fault is that of the first name that is refused in what it
-- spells, or an allocation failed
abbrev pub IsSpellingFault : {B : Type 0} → (refusals : B → List Refusal) → Left B → Fault → Type 0
IsSpellingFault refusals wanted OutOfMemory = Unit {0}
IsSpellingFault refusals wanted (BadInput place) = IsLeft wanted place
IsSpellingFault refusals wanted (Refused number span) =
    IsOkAnd wanted (λ b. IsFirst (Refused number span) (refusals b))

-- what the value spells was made and no name in it is refused, or the fault is as defined above
abbrev pub GivesSpelled : {A B : Type 0} → (view : A → B) → (refusals : B → List Refusal)
    → Result A Fault → Left B → Type 0
GivesSpelled view refusals r wanted =
    MatchResult r (λ a. (wanted ≡ Ok (view a)) × (refusals (view a) ≡ []))
    (IsSpellingFault refusals wanted)

abbrev pub GivesElement : Result HtmlElement Fault → Left ElementView → Type 0
GivesElement = GivesSpelled element_view element_refusals

-- the flat tree is that of the element that the value spells, and no name in it is refused
pub record IsTreeOf (wanted : Left ElementView) (tree : FlatTree) : Type 0 where
  pub root : ElementView
  pub spelled : wanted ≡ Ok root
  pub nodes : tree_nodes tree ≡ node (element_node root.0 root.1) none
  pub clean : element_refusals root ≡ []

-- the flat tree of the element was made, or the fault is as defined above
abbrev pub GivesTree : Result FlatTree Fault → Left ElementView → Type 0
GivesTree r wanted = MatchResult r (IsTreeOf wanted) (IsSpellingFault element_refusals wanted)

abbrev pub GivesItems : Result (Vec Pair Global) Fault → Left ItemsView → Type 0
GivesItems = GivesSpelled (λ pairs. items_view pairs.items) items_refusals

abbrev pub document_parts_view : DocumentParts → DocumentPartsView
document_parts_view parts = record {
  info = info_view parts.info;
  items = view parts.items;
  footnotes = view parts.footnotes;
  head = view parts.head;
}

abbrev pub spelling_view : SpelledDocument → Spelling
spelling_view d = record {
  info = info_view d.info;
  items = items_view d.items.items;
  footnotes = items_view d.footnotes.items;
  head = nodes_view d.head.items;
}

abbrev pub GivesSpelledDocument : Result SpelledDocument Fault → Left Spelling → Type 0
GivesSpelledDocument = GivesSpelled spelling_view names_refusals
