-- The same findings by a walk that keeps the surroundings of a node instead of its ancestors.
use Rattle.std.specs.Prelude.{ℕ, suc, List, [], ◌∷◌, ◌++◌, if◌then◌else◌, Some}
use Rattle.html_dom_tree.specs.Tree.{Head, NodeView, tag_node, text_node, element_node, frame_node, NodesView, none, node}
use Rattle.html_page_nesting.specs.{Ancestors.{space_of}, Misnested.{Finding, found}}
use Rattle.html_page_nesting.specs.NestingRules.{element_misnesting, frame_misnesting, is_too_deep, text_misnesting}
use Rattle.html_page_nesting.specs.Surroundings.{surroundings_with}
use Rattle.html_page_nesting.specs.declared.misnesting.Misnesting.TheVariants as rule
use Rattle.html_page_nesting.specs.declared.surroundings.Surroundings.{Surroundings}

-- the surroundings of an element's children
abbrev pub surroundings_in : Head → Surroundings → Surroundings
surroundings_in h around =
    surroundings_with (record { head = h; space = space_of around.reading h.name }) around

unfoldable mutual
  pub node_walk : (path : List ℕ) → Surroundings → NodeView → List Finding
  node_walk path around (tag_node t) = []
  node_walk path around (text_node s span) = found path span (text_misnesting s around)
  node_walk path around (element_node h kids) = if is_too_deep around
      then found path h.span (Some rule.TooDeep)
      else found path h.span (element_misnesting h kids around)
      ++ nodes_walk path 0 (surroundings_in h around) kids
  node_walk path around (frame_node f) = found path f.span (frame_misnesting around)

  pub nodes_walk : (parent : List ℕ) → (index : ℕ) → Surroundings → NodesView → List Finding
  nodes_walk parent index around none = []
  nodes_walk parent index around (node n ns) =
      node_walk (parent ++ index ∷ []) around n ++ nodes_walk parent (suc index) around ns
