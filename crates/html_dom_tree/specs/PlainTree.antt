-- Plain trees: a tree without frames, with tags, spans, parents and flags dropped, neighbouring
-- texts joined (also those on both sides of a tag), and empty texts dropped. That is a tree's
-- normal form.
use Rattle.std.specs.Prelude.{ℕ, List, [], ◌∷◌, ◌++◌}
use Rattle.html_dom_tree.specs.Tree.{TextPair, tag_node, text_node, element_node, frame_node, NodesView, none, node, ElementView}

mutual
  pub data Plain : Type 0 where
    words : List ℕ → Plain
    branch : (name : List ℕ) (attrs : List TextPair) (children : Plains) → Plain

  pub data Plains : Type 0 where
    no_plains : Plains
    plain : Plain → Plains → Plains

-- a text before plain nodes, joined with their first text if they begin with one
abbrev pub put_words : List ℕ → Plains → Plains
put_words [] ps = ps
put_words (c ∷ cs) no_plains = plain (words (c ∷ cs)) no_plains
put_words (c ∷ cs) (plain (words t) ps) = plain (words ((c ∷ cs) ++ t)) ps
put_words (c ∷ cs) (plain (branch name attrs children) ps) =
    plain (words (c ∷ cs)) (plain (branch name attrs children) ps)

-- one recursion over both types
unfoldable pub nodes_normal : NodesView → Plains
nodes_normal none = no_plains
nodes_normal (node (tag_node t) ns) = nodes_normal ns
nodes_normal (node (text_node s span) ns) = put_words s (nodes_normal ns)
nodes_normal (node (element_node h children) ns) =
    plain (branch h.name h.attrs (nodes_normal children)) (nodes_normal ns)
nodes_normal (node (frame_node f) ns) = nodes_normal ns

-- the normal form of an element
abbrev pub element_normal : ElementView → Plain
element_normal e = branch e.0.name e.0.attrs (nodes_normal e.1)
