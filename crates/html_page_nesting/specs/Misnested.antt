-- The nodes of a tree that a parser of HTML would not leave where they are, in document order, each
-- with the first rule that it breaks. The content of an element that is too deep is not checked.
use Rattle.std.specs.Prelude.{ℕ, suc, List, [], ◌∷◌, ◌++◌, if◌then◌else◌, Option, Some, None}
use Rattle.html_dom_tree.specs.Tree.{NodeView, tag_node, text_node, element_node, frame_node, NodesView, none, node, ElementView}
use Rattle.html_page_nesting.specs.Ancestors.{Ancestor, ancestor}
use Rattle.html_page_nesting.specs.NestingRules.{element_misnesting, frame_misnesting, is_too_deep, root_misnesting, text_misnesting}
use Rattle.html_page_nesting.specs.{Surroundings.{surroundings_of}, declared.misnesting.Misnesting.{Misnesting}}
use Rattle.html_page_nesting.specs.declared.misnesting.Misnesting.TheVariants as rule

-- a finding: the index of each child on the way from the root to the node; its span; and the rule
pub record Finding : Type 0 where
  pub path : List ℕ
  pub span : ℕ
  pub why : Misnesting

abbrev pub found : (path : List ℕ) → (span : ℕ) → Option Misnesting → List Finding
found path span None = []
found path span (Some m) = record { path = path; span = span; why = m } ∷ []

unfoldable mutual
  pub node_misnested : (path : List ℕ) → (above : List Ancestor) → NodeView → List Finding
  node_misnested path above (tag_node t) = []
  node_misnested path above (text_node s span) =
      found path span (text_misnesting s (surroundings_of above))
  node_misnested path above (element_node h kids) = if is_too_deep (surroundings_of above)
      then found path h.span (Some rule.TooDeep)
      else found path h.span (element_misnesting h kids (surroundings_of above))
      ++ nodes_misnested path 0 (ancestor h above ∷ above) kids
  node_misnested path above (frame_node f) =
      found path f.span (frame_misnesting (surroundings_of above))

  -- the findings among children; each child has the path of its parent and an index, from this one
  -- on
  pub nodes_misnested : (parent : List ℕ) → (index : ℕ) → (above : List Ancestor) → NodesView →
      List Finding
  nodes_misnested parent index above none = []
  nodes_misnested parent index above (node n ns) =
      node_misnested (parent ++ index ∷ []) above n ++ nodes_misnested parent (suc index) above ns

-- the findings of a whole tree
abbrev pub misnested_nodes : ElementView → List Finding
misnested_nodes e = found [] e.0.span (root_misnesting e (surroundings_of []))
    ++ nodes_misnested [] 0 (ancestor e.0 [] ∷ []) e.1
