-- Returned names stand in the new tree.
use Rattle.std.specs.Prelude.{◌≡◌, ℕ, false, true, Some, None}
use Rattle.html_dom_tree.specs.{FrameFree.{ElementIsFrameFree}, Tree.{ElementView}}
use Rattle.html_names_core.specs.Names.{stands_in}
use Rattle.html_links.specs.TreeNames.{Name}
pub use Rattle.html_links.specs.TreeNames.{id_names, shown_names, first_ids}
use Rattle.html_anchors.specs.{Anchors.{element_with_anchors, anchor_of}, Events.{Targets}}

-- each returned name is the first `id` of an element below the root, or a frame's `id`, or one of a
-- frame's anchors
abbrev pub AnswersAreShown : Type 0
AnswersAreShown = (x : Targets) (e : ElementView) (l : ℕ) (n : Name) → anchor_of x e l ≡ Some n →
    stands_in (shown_names (element_with_anchors x e).1) n ≡ true

-- each returned name is the first `id` of an element, if the tree has no frames
abbrev pub AnswersAreFirstIds : Type 0
AnswersAreFirstIds = (x : Targets) (e : ElementView) → ElementIsFrameFree e → (l : ℕ) (n : Name) →
    anchor_of x e l ≡ Some n → stands_in (first_ids (element_with_anchors x e).1) n ≡ true

-- anchors add no frame
abbrev pub StaysFrameFree : Type 0
StaysFrameFree = (x : Targets) (e : ElementView) → ElementIsFrameFree e →
    ElementIsFrameFree (element_with_anchors x e)

-- without targets the tree stays, and no location gets a name
abbrev pub NoTargetNoChange : Type 0
NoTargetNoChange = (x : Targets) (e : ElementView) → ((l : ℕ) → x.is_target l ≡ false) →
    (element_with_anchors x e ≡ e) × ((l : ℕ) → anchor_of x e l ≡ None)
