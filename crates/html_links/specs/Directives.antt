-- The fragment directive: a document's URL loses what stands behind `:~:` before a browser looks for
-- the place that its fragment indicates (URL Fragment Text Directives: the fragment directive).
use Rattle.std.specs.{List.{starts_with}, Prelude.{ℕ, Bool, false, ◌||◌, ◌==◌, List, [], ◌∷◌, codes, if◌then◌else◌}}

-- whether a directive stands at the beginning of a fragment
abbrev pub begins_directive : (fragment : List ℕ) → Bool
begins_directive fragment = starts_with ◌==◌ fragment (codes ":~:")

-- whether one stands anywhere in it
unfoldable pub has_directive : (fragment : List ℕ) → Bool
has_directive [] = false
has_directive (c ∷ cs) = begins_directive (c ∷ cs) || has_directive cs

-- the text before the first, or all of it
unfoldable pub without_directive : (fragment : List ℕ) → List ℕ
without_directive [] = []
without_directive (c ∷ cs) = if begins_directive (c ∷ cs) then [] else c ∷ without_directive cs
