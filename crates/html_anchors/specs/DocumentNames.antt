-- The names of a document's anchors: new ones differ from all others, and returned ones stand in
-- the tree.
use Rattle.std.specs.Prelude.{◌≡◌, ℕ, Bool, true, Option, Some}
use Rattle.html_names_core.specs.Names.{stands_in}
use Rattle.html_dom_document.specs.Documents.{DocumentView, document_root}
use Rattle.html_links.specs.TreeNames.{Name, shown_names}
use Rattle.html_anchors.specs.{Fresh.{MadeAreNew}, LinkAnchors.{document_targets}}

-- each name made for an anchor differs from those in use in the tree, and from those made before it
abbrev pub AnchorsAreNew : (is_target : ℕ → Bool) → DocumentView → Type 0
AnchorsAreNew is_target d = MadeAreNew (document_targets is_target d) (document_root d)

-- each name that a location has is the first `id` of an element below the root, a frame's `id`, or
-- one of a frame's anchors
abbrev pub AnchorsAreShown : (anchor : ℕ → Option Name) → DocumentView → Type 0
AnchorsAreShown anchor d = (l : ℕ) (n : Name) → anchor l ≡ Some n →
    stands_in (shown_names (document_root d).1) n ≡ true
