-- Anchors are invisible to any view of a tree that shows neither an `id` nor a `span` as such.
use Rattle.std.specs.Prelude.{◌≡◌, ℕ, Bool, false, ◌||◌, List, [], ◌∷◌, ◌++◌, codes}
use Rattle.html_dom_tree.specs.{PlainTree.{words, branch, Plains, no_plains, plain, nodes_normal}, Tree.{TextPair, ElementView}}
use Rattle.html_links.specs.TreeNames.{Name}
use Rattle.html_anchors.specs.{Anchors.{element_with_anchors}, Events.{Targets}}

-- a view of plain trees as lists: characters one by one, by whether blanks are preserved there;
-- which elements preserve the blanks in them; elements, by the view of their children
pub record Sight (A : Type 0) : Type 0 where
  pub char : (preserved : Bool) → ℕ → A
  pub preserves : (name : List ℕ) (attrs : List TextPair) → Bool
  pub branch_seen : (name : List ℕ) (attrs : List TextPair) (inner : List A) → List A

module _ {A : Type 0} where
  abbrev pub text_sights : Sight A → (preserved : Bool) → List ℕ → List A
  text_sights s k [] = []
  text_sights s k (c ∷ cs) = s.char k c ∷ text_sights s k cs

  unfoldable pub plains_sights : Sight A → (preserved : Bool) → Plains → List A
  plains_sights s k no_plains = []
  plains_sights s k (plain (words t) ps) = text_sights s k t ++ plains_sights s k ps
  plains_sights s k (plain (branch name attrs kids) ps) =
      s.branch_seen name attrs (plains_sights s (k || s.preserves name attrs) kids)
      ++ plains_sights s k ps

  -- an `id` in front of other attributes is invisible, and a `span` with only an `id` shows its
  -- children
  pub record SeesNoAnchors (s : Sight A) : Type 0 where
    pub id_preserves : (n : Name) (name : List ℕ) (attrs : List TextPair) →
        s.preserves name ((codes "id", n) ∷ attrs) ≡ s.preserves name attrs
    pub id_seen : (n : Name) (name : List ℕ) (attrs : List TextPair) (inner : List A) →
        s.branch_seen name ((codes "id", n) ∷ attrs) inner ≡ s.branch_seen name attrs inner
    pub span_preserves : s.preserves (codes "span") [] ≡ false
    pub span_seen : (inner : List A) → s.branch_seen (codes "span") [] inner ≡ inner

-- the view of the new tree's normal form is that of the old one's
abbrev pub StaysSeen : (A : Type 0) → Type 0
StaysSeen A = (s : Sight A) → SeesNoAnchors s →
    (x : Targets) (e : ElementView) (preserved : Bool) →
    plains_sights s preserved (nodes_normal (element_with_anchors x e).1)
    ≡ plains_sights s preserved (nodes_normal e.1)
