-- Nodes in which nothing is misnested stay in a fragment too: a parser of fragments makes the same
-- nodes of their text.
use Rattle.std.specs.Prelude.{◌≡◌, ◌==◌, ℕ, ◌<◌, Bool, false, [], ◌∷◌, List, codes, None, Ok}
use Rattle.html_dom_tree.specs.{FrameFree.{NodesAreFrameFree}, PlainTree.{nodes_normal}}
use Rattle.html_dom_tree.specs.Tree.{Head, element_node, NodesView, none, node, ElementView}
use Rattle.html_page_nesting.specs.Misnested.{misnested_nodes}
use Rattle.typst_html_encode.specs.{Fragments.{fragment_faults, fragment_text}, FrameWriters.{Frames}, ReadingBack.{NodesAreNamed}}
use Rattle.html_page_read.specs.{FragmentReading.{fragment_nodes, fragment_read}, PageReading.{PageResult}}
use Rattle.typst_html_nesting_laws.specs.TreesStay.{NodesAreReadable, no_notes}

-- the head of an element with that name, without attributes
abbrev pub bare_head : (name : List ℕ) → Head
bare_head name =
    record { name = name; attrs = []; css = []; parent = None; span = 0; pre_span = false }

-- the page around nodes: an empty `head`, and a `body` with the nodes
abbrev pub fragment_root : NodesView → ElementView
fragment_root ns = (
  bare_head (codes "html"),
  node (element_node (bare_head (codes "head")) none)
      (node (element_node (bare_head (codes "body")) ns) none),
)

-- whether a text begins with a byte order mark, which the reader drops
abbrev pub begins_marked : List ℕ → Bool
begins_marked [] = false
begins_marked (c ∷ cs) = c == 0xfeff

-- nodes that browsers keep in a body: they can be written, and nothing in them is misnested
pub record IsKeptFragment (frames : Frames) (ns : NodesView) : Type 0 where
  pub named : NodesAreNamed ns
  pub frame_free : NodesAreFrameFree ns
  pub readable : NodesAreReadable ns
  pub clean : fragment_faults frames ns ≡ []
  pub nested : misnested_nodes (fragment_root ns) ≡ []
  pub unmarked : begins_marked (fragment_text frames ns) ≡ false

-- the nodes are read without an error, as they are but with tags dropped and texts joined
pub record IsFragmentBack (ns : NodesView) (r : PageResult) : Type 0 where
  pub root : ElementView
  pub read : r ≡ Ok (root, no_notes)
  pub same : nodes_normal (fragment_nodes root) ≡ nodes_normal ns

-- the reader of fragments reads the plain text of such nodes as the nodes, if they may be as deep
-- as browsers allow
abbrev pub FragmentsStay : Type 0
FragmentsStay = (frames : Frames) (limit : ℕ) (ns : NodesView) → IsKeptFragment frames ns →
    512 < limit → IsFragmentBack ns (fragment_read limit (fragment_text frames ns))
