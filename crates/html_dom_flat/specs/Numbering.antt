-- Names that keep their numbers when a table grows, and values with its numbers.
use Rattle.std.specs.{List.{list_all}, Prelude.{◌≡◌, ℕ, true, ◌<◌, List, map, length}}
use Rattle.html_names_table.specs.NameTables.{NamesView, name_at}
use Rattle.html_dom_tree.specs.Tree.{TextPair}
use Rattle.html_dom_flat.specs.{FlatViews.{FlatPair, flat_pair, is_pair_given}, declared.flat_node.FlatNode.{FlatNode}}
use Rattle.html_dom_flat.specs.declared.flat_node.FlatNode.TheVariants.{Tag, Text, Frame, Element}

-- each number keeps its name
abbrev pub AreKept : (old new : List (List ℕ)) → Type 0
AreKept old new = (number : ℕ) → number < length old →
    (number < length new) × (name_at new number ≡ name_at old number)

-- each number of a tag, and of an attribute, keeps its name
pub record Grows (old new : NamesView) : Type 0 where
  pub tags : AreKept old.tags new.tags
  pub attrs : AreKept old.attrs new.attrs

-- the attributes as pairs of a value and the number of its name, which is in the table
pub record ArePairsOf (names : NamesView) (pairs : List FlatPair) (attrs : List TextPair) : Type 0
  where
    pub same : map (flat_pair names) pairs ≡ attrs
    pub given : list_all (is_pair_given names) pairs ≡ true

-- the number of that tag and the pairs of the attributes, with numbers that are in the table
pub record AreNumbersOf (names : NamesView) (number : ℕ) (pairs : List FlatPair) (tag : List ℕ)
    (attrs : List TextPair) : Type 0 where
  pub below : number < length names.tags
  pub same : name_at names.tags number ≡ tag
  pub pairs_are : ArePairsOf names pairs attrs

-- the node with that `past`, if it is an element
abbrev pub node_with_past : (past : ℕ) → FlatNode → FlatNode
node_with_past past (Tag t) = Tag t
node_with_past past (Text s span) = Text s span
node_with_past past (Frame f) = Frame f
node_with_past past (Element e) = Element (record e { past = past })
