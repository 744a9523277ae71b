-- What anchors, and the `href` of links, leave unchanged in any tree.
use Rattle.std.specs.Prelude.{◌≡◌, ◌↔◌, Bool}
use Rattle.html_dom_tree.specs.{FrameFree.{ElementIsFrameFree}, PlainTree.{nodes_normal}, Tree.{ElementView}}
use Rattle.html_anchors.specs.{Anchors.{element_with_anchors}, Events.{Targets}, Links.{Hrefs, root_with_links}}
use Rattle.html_dom_shown.specs.Collapsing.{plains_atoms}
use Rattle.typst_html_encode.specs.ReadingBack.{ElementIsNamed}

-- both trees have the same atoms, so that the same is visible in them
abbrev pub HaveSameAtoms : ElementView → ElementView → Type 0
HaveSameAtoms e old = (preserved : Bool) →
    plains_atoms preserved (nodes_normal e.1) ≡ plains_atoms preserved (nodes_normal old.1)

-- a tree with anchors has the atoms of the tree without
abbrev pub AnchorsKeepAtoms : Type 0
AnchorsKeepAtoms = (x : Targets) (e : ElementView) → HaveSameAtoms (element_with_anchors x e) e

-- a tree with the `href` of its links has the atoms of the tree without
abbrev pub LinksKeepAtoms : Type 0
LinksKeepAtoms = (hrefs : Hrefs) (e : ElementView) → HaveSameAtoms (root_with_links hrefs e) e

-- the `href` of links neither adds nor removes a frame
abbrev pub LinksKeepFrames : Type 0
LinksKeepFrames = (hrefs : Hrefs) (e : ElementView) →
    (ElementIsFrameFree (root_with_links hrefs e) ↔ ElementIsFrameFree e)

-- valid names stay valid with the `href` of links
abbrev pub LinksKeepNames : Type 0
LinksKeepNames = (hrefs : Hrefs) (e : ElementView) → ElementIsNamed e →
    ElementIsNamed (root_with_links hrefs e)
