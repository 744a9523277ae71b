-- The paths of tags, which lead to the elements that hold the tags.
use Rattle.std.specs.Prelude.{◌≡◌, ℕ, zero, suc, List, [], ◌∷◌, ◌++◌, true, false, Option, Some, None, option_and_then}
use Rattle.html_dom_tree.specs.PlainTree.{Plain, words, branch, Plains, no_plains, plain, element_normal}
use Rattle.html_dom_tree.specs.Tree.{starts, ends, Head, tag_node, text_node, element_node, frame_node, NodesView, none, node, ElementView}
use Rattle.html_dom_document.specs.Places.{PlacedTagView, is_named_html, node_places}

-- the child at an index
abbrev pub nth : Plains → ℕ → Option Plain
nth no_plains i = None
nth (plain p ps) zero = Some p
nth (plain p ps) (suc i) = nth ps i

abbrev pub child : ℕ → Plain → Option Plain
child i (words s) = None
child i (branch name attrs children) = nth children i

-- the descendant to which child indices lead
abbrev pub follow : List ℕ → Plain → Option Plain
follow [] p = Some p
follow (i ∷ path) p = option_and_then (follow path) (child i p)

-- no frame, no empty text and no `html` element, at any depth
unfoldable pub ArePlain : NodesView → Type 0
ArePlain none = Unit {0}
ArePlain (node (tag_node t) ns) = ArePlain ns
ArePlain (node (text_node [] span) ns) = ⊥
ArePlain (node (text_node (c ∷ cs) span) ns) = ArePlain ns
ArePlain (node (element_node h children) ns) =
    (is_named_html h ≡ false) × ArePlain children × ArePlain ns
ArePlain (node (frame_node f) ns) = ⊥

-- a list without its last item
abbrev pub without_last : List ℕ → List ℕ
without_last [] = []
without_last (x ∷ []) = []
without_last (x ∷ y ∷ ys) = x ∷ without_last (y ∷ ys)

-- for each start tag, in document order, the element that holds it, whose children these are
unfoldable pub holders : ElementView → NodesView → List ElementView
holders e none = []
holders e (node (tag_node (starts location label dest)) ns) = e ∷ holders e ns
holders e (node (tag_node (ends location)) ns) = holders e ns
holders e (node (text_node s span) ns) = holders e ns
holders e (node (element_node h children) ns) = holders (h, children) children ++ holders e ns
holders e (node (frame_node f) ns) = holders e ns

-- each path, without its last index, leads to the normal form of the element beside it
abbrev pub Lead : Plain → List PlacedTagView → List ElementView → Type 0
Lead root [] [] = Unit {0}
Lead root [] (e ∷ es) = ⊥
Lead root (p ∷ ps) [] = ⊥
Lead root (p ∷ ps) (e ∷ es) =
    (follow (without_last p.position.path) root ≡ Some (element_normal e)) × Lead root ps es

-- the start tags below a root that is the only `html` element
abbrev pub PathsLead : Type 0
PathsLead = (index : ℕ) (h : Head) (children : NodesView) →
    is_named_html h ≡ true → ArePlain children →
    Lead (element_normal (h, children)) (node_places [] index (element_node h children))
    (holders (h, children) children)
