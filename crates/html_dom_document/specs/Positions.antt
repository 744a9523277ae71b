-- The positions of a document, which lead to the elements that hold the tags.
use Rattle.std.specs.Prelude.{◌≡◌, ℕ, List, [], ◌∷◌, true, ◌==◌, if◌then◌else◌, Option, Some, None, option_and_then}
use Rattle.html_dom_tree.specs.{PlainTree.{Plain, element_normal}, Tree.{ElementView}}
use Rattle.html_dom_document.specs.Documents.{OutputView, DocumentView, nodes_before, root_of}
use Rattle.html_dom_document.specs.Paths.{follow, ArePlain, without_last, holders}
use Rattle.html_dom_document.specs.Places.{PositionView, PlacedTagView, is_named_html, document_places, first_position}

-- the element that holds a location's first start tag, from tags and their elements
abbrev pub first_holder : List PlacedTagView → List ElementView → (location : ℕ) → Option ElementView
first_holder [] es location = None
first_holder (p ∷ ps) [] location = None
first_holder (p ∷ ps) (e ∷ es) location =
    if p.location == location then Some e else first_holder ps es location

-- the element that holds a location's first start tag below an `html` element
abbrev pub holder_below : ElementView → (location : ℕ) → Option ElementView
holder_below root = first_holder (document_places root.1) (holders root root.1)

-- no start tag of a location stands before the root
abbrev pub NotBeforeRoot : OutputView → (location : ℕ) → Type 0
NotBeforeRoot o location =
    first_position (document_places (nodes_before o.nodes o.root)) location ≡ None

-- the node to which a position leads by child indices: those of its path without the last, which is
-- the tag's own
abbrev pub led_to : Plain → PositionView → Option Plain
led_to root position = follow (without_last position.path) root

-- if the root is the only `html` element of a tree with no frame and no empty text, the position of
-- each location that starts below it and not before it leads to the element that holds the tag
abbrev pub PositionsLead : DocumentView → Type 0
PositionsLead d = (root : ElementView) (location : ℕ) (holder : ElementView) →
    root_of d.output ≡ Some root → is_named_html root.0 ≡ true → ArePlain root.1 →
    NotBeforeRoot d.output location → holder_below root location ≡ Some holder →
    option_and_then (led_to (element_normal root)) (d.introspector.position location)
    ≡ Some (element_normal holder)
