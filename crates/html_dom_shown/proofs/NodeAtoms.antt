-- The atoms of a normal form, node by node.
use Rattle.std.proofs.Common.{◌≡◌, ℕ, List, [], ◌∷◌, ◌++◌, Bool, ◌||◌, refl, ap, ◌∙◌, append_assoc}
use Rattle.html_dom_tree.specs.PlainTree.{words, branch, Plains, no_plains, plain, put_words, nodes_normal}
use Rattle.html_dom_tree.specs.Tree.{NodeView, tag_node, text_node, element_node, frame_node, NodesView, none, node}
use Rattle.html_dom_shown.specs.Collapsing.{Atom, char_atom, text_atoms, preserves, element_atoms, plains_atoms}

abbrev mutual
  pub node_atoms : (preserved : Bool) → NodeView → List Atom
  node_atoms preserved (tag_node t) = []
  node_atoms preserved (text_node s span) = text_atoms preserved s
  node_atoms preserved (element_node h ns) = element_atoms h.name h.attrs
      (nodes_atoms (preserved || preserves h.name h.attrs) ns)
  node_atoms preserved (frame_node b) = []

  pub nodes_atoms : (preserved : Bool) → NodesView → List Atom
  nodes_atoms preserved none = []
  nodes_atoms preserved (node n ns) = node_atoms preserved n ++ nodes_atoms preserved ns

text_joined : (preserved : Bool) (s t : List ℕ) →
    text_atoms preserved (s ++ t) ≡ text_atoms preserved s ++ text_atoms preserved t
text_joined preserved [] t = refl
text_joined preserved (c ∷ cs) t = ap (λ l. char_atom preserved c ∷ l) (text_joined preserved cs t)

words_atoms : (preserved : Bool) (s : List ℕ) (ps : Plains) →
    plains_atoms preserved (put_words s ps) ≡ text_atoms preserved s ++ plains_atoms preserved ps
words_atoms preserved [] ps = refl
words_atoms preserved (c ∷ cs) no_plains = refl
words_atoms preserved (c ∷ cs) (plain (words t) ps) =
    ap (λ l. char_atom preserved c ∷ l) (ap (λ l. l ++ plains_atoms preserved ps)
    (text_joined preserved cs t) ∙ append_assoc (text_atoms preserved cs)
    (text_atoms preserved t) (plains_atoms preserved ps))
words_atoms preserved (c ∷ cs) (plain (branch name attrs kids) ps) = refl

pub normal_atoms : (ns : NodesView) (preserved : Bool) →
    plains_atoms preserved (nodes_normal ns) ≡ nodes_atoms preserved ns
unfolding nodes_normal
normal_atoms none preserved = refl
normal_atoms (node (tag_node t) ns) preserved = normal_atoms ns preserved
normal_atoms (node (text_node s span) ns) preserved = words_atoms preserved s (nodes_normal ns)
    ∙ ap (λ l. text_atoms preserved s ++ l) (normal_atoms ns preserved)
normal_atoms (node (element_node h kids) ns) preserved =
    ap (λ l. element_atoms h.name h.attrs l ++ plains_atoms preserved (nodes_normal ns))
    (normal_atoms kids (preserved || preserves h.name h.attrs))
    ∙ ap (λ l. element_atoms h.name h.attrs (nodes_atoms
    (preserved || preserves h.name h.attrs) kids) ++ l) (normal_atoms ns preserved)
normal_atoms (node (frame_node b) ns) preserved = normal_atoms ns preserved
