-- The lone node of a list by its place, texts in bytes, and lists of css.
use Rattle.std.proofs.Common.{◌≡◌, ℕ, ◌+◌, ◌-◌, ◌<◌, ◌≤◌, List, [], ◌∷◌, length, get_or, take, drop, map, Bool, true, false, ◌&&◌, if◌then◌else◌, None, Bor, codes, chars, bytes_eq, IsUtf8, refl, sym, ap, ◌∙◌}
use Rattle.std.{proofs.lemmas.List.{at_drop_all, take_rest}, proofs.lemmas.List.Folds.{list_all-map}, specs.List.{list_all}}
use Rattle.html_names_core.proofs.{Basics.{from_place}, Lists.{chars_ascii, bytes_eq-chars}}
use Rattle.html_names_core.specs.{Names.{is_ascii}, Texts.{TextPair}}
use Rattle.html_values_css.specs.Properties.{with_property, without}
use Rattle.html_dom_tree.specs.{Tree.{NodeView, is_tag}, Views.{node_view, nodes_of, nodes_view}}
use Rattle.html_dom_tree.specs.declared.node.HtmlNode.{HtmlNode}
use Rattle.html_flow_convert.specs.LoneNode.{change_view, css_with_display, node_list, are_tags, lone_alone, lone_node}
use Rattle.html_flow_convert.specs.declared.lone.{DisplayChange.{DisplayChange}, DisplayChange.TheVariants.{Removed, SetTo}}

pub node_list_of : (ns : List NodeView) → node_list (nodes_of ns) ≡ ns
unfolding node_list
node_list_of [] = refl
node_list_of (n ∷ ns) = ap (λ l. n ∷ l) (node_list_of ns)

are_tags_of : (ns : List NodeView) → are_tags (nodes_of ns) ≡ list_all is_tag ns
are_tags_of [] = refl
are_tags_of (n ∷ ns) = ap (λ b. is_tag n && b) (are_tags_of ns)

-- the nodes from a place on, with the node at it
module _ (nodes : List HtmlNode) (k : ℕ) (n : HtmlNode) (below : k < length nodes)
    (is : n ≡ get_or nodes k n) where
  pub tag_passed : is_tag (node_view n) ≡ true
      → lone_node (nodes_view (drop k nodes)) ≡ lone_node (nodes_view nodes)
      → lone_node (nodes_view (drop (k + 1) nodes)) ≡ lone_node (nodes_view nodes)
  unfolding lone_node
  tag_passed tag same =
      rw tag at (rw (from_place nodes k n below is) at same)

  -- the first other node decides, with what stands behind it
  pub decided : (tags : Bool) → is_tag (node_view n) ≡ false
      → list_all (λ m. is_tag (node_view m))
      (take (length nodes - (k + 1)) (drop (k + 1) nodes)) ≡ tags
      → lone_node (nodes_view (drop k nodes)) ≡ lone_node (nodes_view nodes)
      → lone_node (nodes_view nodes) ≡ (if tags then lone_alone (node_view n) else None)
  unfolding lone_node
  decided tags other behind same =
      let rest = drop (k + 1) nodes in
      let all : are_tags (nodes_view rest) ≡ tags =
      rw (are_tags_of (map node_view rest), list_all-map, ← take_rest nodes (k + 1)) behind in
      sym same ∙ rw (from_place nodes k n below is, other, all) refl

-- tags alone are passed to the end
pub none_left : (nodes : List HtmlNode) (k : ℕ) → length nodes ≤ k
    → lone_node (nodes_view (drop k nodes)) ≡ lone_node (nodes_view nodes)
    → lone_node (nodes_view nodes) ≡ None
unfolding lone_node
none_left nodes k past same =
    sym same ∙ at_drop_all (λ ns. lone_node (nodes_view ns)) nodes k past

pub block_text : IsUtf8 (codes "block")
unfolding lib.Utf8.encode
block_text = (codes "block", (refl, refl))

pub bytes_eq-word : (text word : List ℕ) → is_ascii word ≡ true → IsUtf8 text → IsUtf8 word
    → bytes_eq (chars text) word ≡ bytes_eq text word
bytes_eq-word text word ascii utf8 own =
    rw (chars_ascii word ascii) at (bytes_eq-chars text word utf8 own)

-- these words are their own characters
pub block_word : chars (codes "block") ≡ codes "block"
block_word = chars_ascii (codes "block") refl

pub block_math_word : chars (codes "block math") ≡ codes "block math"
block_math_word = chars_ascii (codes "block math") refl

pub inline_math_word : chars (codes "inline math") ≡ codes "inline math"
inline_math_word = chars_ascii (codes "inline math") refl

-- what the program's change does to css
module _ (change : DisplayChange) (css : List TextPair) where
  pub display_removed : change ≡ Removed
      → without css (chars (codes "display")) ≡ css_with_display (change_view change) css
  display_removed is = rw is (rw (chars_ascii (codes "display") refl) refl)

  pub display_set : (value : Bor (List ℕ)) (text : List ℕ) → change ≡ SetTo value
      → text ≡ value.now
      → with_property css (chars (codes "display")) (chars text)
      ≡ css_with_display (change_view change) css
  display_set value text is same = rw is (rw (same, chars_ascii (codes "display") refl) refl)
