-- The refusals of the names of a tree or of items, in order: for each element those of its tag, of
-- its attributes, and then of its content.
use Rattle.std.specs.Prelude.{ℕ, List, [], ◌∷◌, ◌++◌, Option, Some, None}
use Rattle.html_names_core.specs.{NameFaults.{number_of}, Names.{tag_fault, attr_fault}, declared.fault.NameFault.{NameFault}}
use Rattle.html_dom_tree.specs.Tree.{TextPair, NodeView, element_node, NodesView, none, node, ElementView}
use Rattle.html_flow_convert.specs.Items as flow
use Rattle.html_flow_convert.specs.Items.{ItemView, element_item, box_item, block_item, ItemsView, BodyView, absent, present}

-- a refusal: its number and its span
abbrev pub Refusal : Type 0
Refusal = ℕ × ℕ

abbrev pub refusals : (span : ℕ) → Option NameFault → List Refusal
refusals span None = []
refusals span (Some f) = (number_of f, span) ∷ []

abbrev pub pairs_refusals : (span : ℕ) → List TextPair → List Refusal
pairs_refusals span [] = []
pairs_refusals span (p ∷ ps) = refusals span (attr_fault p.0) ++ pairs_refusals span ps

-- the refusals of the names of an element itself
abbrev pub own_refusals : (span : ℕ) (tag : List ℕ) (pairs : List TextPair) → List Refusal
own_refusals span tag pairs = refusals span (tag_fault tag) ++ pairs_refusals span pairs

unfoldable mutual
  pub name_refusals : NodeView → List Refusal
  name_refusals (element_node h kids) = own_refusals h.span h.name h.attrs ++ all_name_refusals kids
  name_refusals _ = []

  pub all_name_refusals : NodesView → List Refusal
  all_name_refusals none = []
  all_name_refusals (node n ns) = name_refusals n ++ all_name_refusals ns

abbrev pub element_refusals : ElementView → List Refusal
element_refusals e = name_refusals (element_node e.0 e.1)

unfoldable mutual
  pub item_refusals : ItemView → List Refusal
  item_refusals (element_item h body) =
      own_refusals h.span h.name h.attrs ++ body_refusals body
  item_refusals (box_item body span) = body_refusals body
  item_refusals (block_item body span) = body_refusals body
  item_refusals _ = []

  pub body_refusals : BodyView → List Refusal
  body_refusals absent = []
  body_refusals (present items) = items_refusals items

  pub items_refusals : ItemsView → List Refusal
  items_refusals flow.no_items = []
  items_refusals (flow.item i role items) = item_refusals i ++ items_refusals items
