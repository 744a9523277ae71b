-- Nodes with anchors, and with an `href` of links: exactly what is visible of the nodes without
-- them is visible of these.
use Rattle.std.specs.Prelude.{◌≡◌, ℕ, Bool, false, List, [], ◌∷◌, codes, None}
use Rattle.html_dom_tree.specs.{PlainTree.{nodes_normal}, Tree.{Head, NodesView}}
use Rattle.html_dom_shown.specs.Collapsing.{plains_atoms}
use Rattle.typst_html_encode.specs.IndentsCollapse.{NodesAreEdged}
use Rattle.typst_html_spaces.specs.{Changed.{Change, Changed}, PlainNodes.{ArePlainNodes}}

-- an attribute that an element may get
pub data NewAttribute : Type 0 where
  new_id : NewAttribute
  new_href : NewAttribute

abbrev pub attribute_name : NewAttribute → List ℕ
attribute_name new_id = codes "id"
attribute_name new_href = codes "href"

-- an element with that attribute in front of all others
abbrev pub with_front_attribute : NewAttribute → (value : List ℕ) → Head → Head
with_front_attribute a value h = record h { attrs = (attribute_name a, value) ∷ h.attrs }

-- the head of a `span` with an `id` and nothing else
abbrev pub anchor_head : (id : List ℕ) (span : ℕ) → Head
anchor_head id span = record {
  name = codes "span";
  attrs = (codes "id", id) ∷ [];
  css = [];
  parent = None;
  span = span;
  pre_span = false;
}

-- anchors and new attributes, of which each `id` and each `href` passes a test
module _ (Passes : NewAttribute → List ℕ → Type 0) where
  pub data IsAnchor : Head → Type 0 where
    anchor : (id : List ℕ) (span : ℕ) → Passes new_id id → IsAnchor (anchor_head id span)

  -- an element stays as it is, or gets an `id` or an `href`
  pub data IsGiven : Head → Head → Type 0 where
    nothing : {h : Head} → IsGiven h h
    given : {h : Head} (a : NewAttribute) (value : List ℕ) → Passes a value →
        IsGiven h (with_front_attribute a value h)

  abbrev pub anchors : Change
  anchors = record { after = IsAnchor; around = λ h s. IsAnchor h; head = IsGiven }

-- nodes, and the same with anchors and with an `href` of links
abbrev pub Anchored : (Passes : NewAttribute → List ℕ → Type 0) → NodesView → NodesView → Type 0
Anchored Passes = Changed (anchors Passes)

-- any `id` and any `href`
abbrev pub IsAny : NewAttribute → List ℕ → Type 0
IsAny a value = Unit {0}

-- what is visible stays
abbrev pub AnchorsAreUnseen : Type 0
AnchorsAreUnseen = (ns ms : NodesView) → Anchored IsAny ns ms → (preserved : Bool) →
    plains_atoms preserved (nodes_normal ms) ≡ plains_atoms preserved (nodes_normal ns)

-- what has indents stays a border
abbrev pub AnchorsKeepEdges : Type 0
AnchorsKeepEdges = (ns ms : NodesView) → Anchored IsAny ns ms → NodesAreEdged ns →
    NodesAreEdged ms

-- plain nodes stay plain
abbrev pub AnchorsKeepPlainNodes : Type 0
AnchorsKeepPlainNodes = (ns ms : NodesView) → Anchored IsAny ns ms → ArePlainNodes ns →
    ArePlainNodes ms
