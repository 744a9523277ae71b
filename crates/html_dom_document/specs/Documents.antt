-- Documents as pure values: nodes with a root element among them, information about the whole, and
-- its locations.
use Rattle.std.specs.Prelude.{ℕ, zero, suc, List, [], Bool, Option, Some, None, is_some}
use Rattle.html_dom_tree.specs.Tree.{NodeView, element_node, NodesView, none, node, ElementView, new_element}
pub use Rattle.html_dom_tree.specs.ByIndex.{node_at, as_element, element_at_index}
use Rattle.html_dom_document.specs.Introspectors.{IntrospectorView, recorded_view}

-- a language, and optionally the region in which it is spoken
pub record LocaleView : Type 0 where
  pub lang : List ℕ
  pub region : Option (List ℕ)

-- a language alone
abbrev pub locale_of : List ℕ → LocaleView
locale_of lang = record { lang = lang; region = None }

-- information about a document
pub record InfoView : Type 0 where
  pub title : Option (List ℕ)
  pub description : Option (List ℕ)
  pub author : List (List ℕ)
  pub keywords : List (List ℕ)
  pub locale : Option LocaleView

-- nodes, and the index of the root among them
pub record OutputView : Type 0 where
  pub nodes : NodesView
  pub root : ℕ

pub record DocumentView : Type 0 where
  pub output : OutputView
  pub info : InfoView
  pub introspector : IntrospectorView

-- the document made from an output and information, with the recorded positions and links of its
-- nodes
abbrev pub new_document : OutputView → InfoView → DocumentView
new_document output info =
    record { output = output; info = info; introspector = recorded_view output.nodes }

-- empty information
abbrev pub no_info : InfoView
no_info = record { title = None; description = None; author = []; keywords = []; locale = None }

-- the nodes before an index of a list
abbrev pub nodes_before : NodesView → ℕ → NodesView
nodes_before none i = none
nodes_before (node n ns) zero = none
nodes_before (node n ns) (suc i) = node n (nodes_before ns i)

-- the node of an element
abbrev pub node_of : ElementView → NodeView
node_of e = element_node e.0 e.1

-- whether an element is at an index of a list
abbrev pub is_element_at : NodesView → ℕ → Bool
is_element_at ns i = is_some (element_at_index ns i)

-- the list with that element at an index
abbrev pub with_element : NodesView → ℕ → ElementView → NodesView
with_element none i e = none
with_element (node n ns) zero e = node (node_of e) ns
with_element (node n ns) (suc i) e = node n (with_element ns i e)

-- the root of an output; `HtmlOutput` always has one
abbrev pub root_of : OutputView → Option ElementView
root_of o = element_at_index o.nodes o.root

-- the output with that root instead of its own
abbrev pub with_root : OutputView → ElementView → OutputView
with_root o e = record o { nodes = with_element o.nodes o.root e }

-- the root of an output; an output always has one, so the other case does not occur
abbrev pub given_root : Option ElementView → ElementView
given_root None = new_element []
given_root (Some root) = root

abbrev pub document_root : DocumentView → ElementView
document_root document = given_root (root_of document.output)
