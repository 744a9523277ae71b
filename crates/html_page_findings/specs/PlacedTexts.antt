-- The texts of a tree with their paths, in document order. A path is the index of each child on the
-- way from the root, and empty for the root.
use Rattle.std.specs.Prelude.{ℕ, suc, List, [], ◌∷◌, ◌++◌, map}
use Rattle.html_dom_tree.specs.Frames.{HtmlFrameView}
use Rattle.html_dom_tree.specs.Tree.{TextPair, Head, NodeView, tag_node, text_node, element_node, frame_node, NodesView, none, node, ElementView}
use Rattle.html_links.specs.InDocument.{in_document}

-- a path, and a text of the node at that path
abbrev pub Placed : Type 0
Placed = List ℕ × List ℕ

abbrev pub placed_at : (path : List ℕ) → List (List ℕ) → List Placed
placed_at path = map (λ text. (path, text))

-- texts of one kind: those that an element has by its name and its attributes, and those of a frame
pub record TextKind : Type 0 where
  pub own : (name : List ℕ) (attrs : List TextPair) → List (List ℕ)
  pub framed : HtmlFrameView → List (List ℕ)

abbrev pub of_elements : (own : (name : List ℕ) (attrs : List TextPair) → List (List ℕ)) → TextKind
of_elements own = record { own = own; framed = λ f. [] }

abbrev pub head_texts : TextKind → Head → List (List ℕ)
head_texts kind h = kind.own h.name h.attrs

-- the texts of each node with its path: that of a child is its parent's path and then its own
-- index, which is `index` for the first of the nodes
unfoldable mutual
  pub node_placed : TextKind → (path : List ℕ) → NodeView → List Placed
  node_placed kind path (tag_node t) = []
  node_placed kind path (text_node s span) = []
  node_placed kind path (element_node h kids) =
      placed_at path (head_texts kind h) ++ nodes_placed kind path 0 kids
  node_placed kind path (frame_node f) = placed_at path (kind.framed f)

  pub nodes_placed : TextKind → (parent : List ℕ) → (index : ℕ) → NodesView → List Placed
  nodes_placed kind parent index none = []
  nodes_placed kind parent index (node n ns) =
      node_placed kind (parent ++ index ∷ []) n ++ nodes_placed kind parent (suc index) ns

-- the texts of a whole tree
abbrev pub element_placed : TextKind → ElementView → List Placed
element_placed kind e = node_placed kind [] (element_node e.0 e.1)

-- those of its document: all but those in each `template`
abbrev pub document_placed : TextKind → ElementView → List Placed
document_placed kind e = element_placed kind (in_document e)
