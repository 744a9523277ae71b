-- Readable nodes: nodes without a raw element and without a frame, at any depth. So they can be
-- read back, and stay readable with anchors.
use Rattle.std.specs.Prelude.{◌≡◌, ◌↔◌, Bool, false, Some}
use Rattle.html_names_core.specs.Kinds.{is_raw}
use Rattle.html_dom_tree.specs.{FrameFree.{NodesAreFrameFree}, Tree.{NodesView}}
use Rattle.html_dom_shown.specs.Bodies.{body_children}
use Rattle.typst_html_encode.specs.Indented.{NodesEndWell}
use Rattle.typst_html_spaces.specs.{Anchored.{Anchored, IsAny}, DeepNodes.{HeadsAlone}}

abbrev pub AreReadable : NodesView → Type 0
AreReadable = HeadsAlone (λ h. is_raw h.name ≡ false)

abbrev pub ReadableNodesCanBeRead : Type 0
ReadableNodesCanBeRead = (ns : NodesView) → AreReadable ns →
    NodesAreFrameFree ns × ((pretty : Bool) → NodesEndWell pretty ns)

-- anchors add no raw element, and neither add nor remove a frame
abbrev pub AnchorsKeepReadable : Type 0
AnchorsKeepReadable = (ns ms : NodesView) → Anchored IsAny ns ms → AreReadable ns → AreReadable ms

abbrev pub AnchorsKeepFrameFree : Type 0
AnchorsKeepFrameFree = (ns ms : NodesView) → Anchored IsAny ns ms →
    (NodesAreFrameFree ms ↔ NodesAreFrameFree ns)

-- the first `body` is that of the nodes without anchors, with anchors in it
abbrev pub AnchorsKeepBody : Type 0
AnchorsKeepBody = (ns ms body : NodesView) → Anchored IsAny ns ms → body_children ns ≡ Some body →
    (new : NodesView) × (body_children ms ≡ Some new) × Anchored IsAny body new
