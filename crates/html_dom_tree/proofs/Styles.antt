-- A styled list of nodes node by node, and a text before a value.
use Rattle.std.proofs.Common.{◌≡◌, ℕ, ◌<◌, List, [], ◌∷◌, ◌++◌, length, map, codes, chars, IsUtf8, refl, sym, ap, ◌∙◌, arith}
use Rattle.std.proofs.lemmas.Str.{chars-nil, encodes-chars}
use lib.Utf8.{encodes}
use Rattle.html_dom_tree.specs.{Styled.{styled_node, styled_nodes, before_value}, Tree.{NodeView, node}, Views.{nodes_of}}

pub nodes_styled-nodes_of : (ns : List NodeView) →
    styled_nodes (nodes_of ns) ≡ nodes_of (map styled_node ns)
unfolding styled_node
nodes_styled-nodes_of [] = refl
nodes_styled-nodes_of (n ∷ ns) = ap (node (styled_node n)) (nodes_styled-nodes_of ns)

-- a text before an empty value, and before one that is not empty
pub before_nothing : (text bytes : List ℕ) →
    length bytes ≡ 0 → before_value text (chars bytes) ≡ text
before_nothing text [] none = rw chars-nil refl
before_nothing text (c ∷ cs) none = absurd (omega (arith, none))

pub before_some : (text bytes : List ℕ) → IsUtf8 bytes → 0 < length bytes →
    before_value text (chars bytes) ≡ text ++ codes "; " ++ chars bytes
before_some text bytes utf8 some = by (chars bytes) refl
  where
    by : (value : List ℕ) → chars bytes ≡ value →
        before_value text value ≡ text ++ codes "; " ++ value
    by [] none =
        absurd (omega (arith, some, ap length (sym (encodes-chars bytes utf8) ∙ ap encodes none)))
    by (c ∷ cs) is = refl
