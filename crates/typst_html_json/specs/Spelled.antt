-- The tree that a JSON value spells, by the shape of its lists. Names are not checked here.
--     ["text", t]   ["el", tag, [[name, value], ..], [node, ..]]
--     ["start", n]   ["start", n, dest]   ["end", n]
-- The spans are the numbers of these lists, counted from 1 in the order of their opening brackets.
-- A value that spells no tree leaves the form at the number of the last list that is opened, or at
-- 0 before the first. A list that is none of these counts as opened, but nothing in it is read.
use Rattle.std.specs.Prelude.{◌≡◌, ℕ, Bool, true, false, List, Ok, Err}
use Rattle.serde_json.specs.Data.{Data, array, Items, no_items, item}
use Rattle.html_dom_tree.specs.Tree.{TextPair, plain_head, NodeView, tag_node, text_node, element_node, frame_node, NodesView, none, node, ElementView}
use Rattle.typst_html_json.specs.Fields.{text_at, pairs_at, text_form, plain_start_form, end_form, leaf, numbered_leaf, element_from, row_from}
use Rattle.typst_html_json.specs.{FormKinds.{list_kind}, LeftForms.{Left, and_then, from_part}, Marks.{Mark, opened, at_start}}
use Rattle.typst_html_json.specs.declared.{input_forms.Forms.TheVariants.{Program}, kind.Kind.{Kind}}
use Rattle.typst_html_json.specs.declared.kind.Kind.TheVariants.{Text, Element, Start, End}

abbrev pub element_made : (span : ℕ) → List ℕ → List TextPair → NodesView → NodeView
element_made span tag pairs kids = element_node (plain_head tag pairs span) kids

abbrev pub spelled_text : Items → Mark → Left (NodeView × Mark)
spelled_text fields m = leaf (λ t. text_node t m.lists) (text_form fields) m

-- a node of that kind
abbrev pub kind_from : Kind → Items → (m : Mark) → (as_element : Left (NodeView × Mark))
    → Left (NodeView × Mark)
kind_from Text fields m as_element = spelled_text fields m
kind_from Element fields m as_element = as_element
kind_from Start fields m as_element = numbered_leaf tag_node (plain_start_form fields) m
kind_from End fields m as_element = numbered_leaf tag_node (end_form fields) m
kind_from kind fields m as_element = Err m.lists

-- the node that a value spells, and the state of the reader after it
abbrev mutual
  pub spelled_node : Data → Mark → Left (NodeView × Mark)
  spelled_node (array items) m = form items (opened m)
  spelled_node _ m = Err m.lists

  -- the node of the list that was opened last
  pub form : Items → Mark → Left (NodeView × Mark)
  form no_items m = Err m.lists
  form (item kind fields) m = from_part m.lists
      (λ k. kind_from k fields m (element_form fields m)) (list_kind Program (item kind fields))

  pub element_form : Items → Mark → Left (NodeView × Mark)
  element_form (item tag (item attrs (item children no_items))) m =
      element_from (element_made m.lists) m (text_at tag) (pairs_at attrs) (list_at children m)
  element_form _ m = Err m.lists

  pub list_at : Data → Mark → Left (NodesView × Mark)
  list_at (array items) m = spelled_all items m
  list_at _ m = Err m.lists

  pub spelled_all : Items → Mark → Left (NodesView × Mark)
  spelled_all no_items m = Ok (none, m)
  spelled_all (item d ds) m = row_from node (spelled_node d m) (spelled_all ds)

-- a node of that kind, in the list that was opened last
abbrev pub node_of_kind : Kind → Items → Mark → Left (NodeView × Mark)
node_of_kind kind fields m = kind_from kind fields m (element_form fields m)

-- the element that the first list spells
abbrev pub element_of : NodeView × Mark → Left ElementView
element_of (element_node h kids, m) = Ok (h, kids)
element_of (tag_node t, m) = Err 1
element_of (text_node s span, m) = Err 1
element_of (frame_node b, m) = Err 1

-- whether the first of the nodes is an element
abbrev pub begins_with_element : NodesView → Bool
begins_with_element (node (element_node h kids) ns) = true
begins_with_element ns = false

-- the element is the first of the nodes
abbrev pub IsFirstElement : NodesView → ElementView → Type 0
IsFirstElement ns e = (others : NodesView) × (ns ≡ node (element_node e.0 e.1) others)

-- the element that a value spells
abbrev pub spelled_element : Data → Left ElementView
spelled_element d = and_then element_of (spelled_node d at_start)
