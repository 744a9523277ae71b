-- Parts as plain text, in UTF-8: a line break and an edge are line feeds, except a leading or
-- trailing edge, and an object is U+FFFC.
use Rattle.std.specs.{List.{flat_map}, Prelude.{ℕ, Bool, true, false, List, [], ◌∷◌, if◌then◌else◌, string_bytes}}
use Rattle.html_page_text.specs.declared.shown.{Shown.{Shown}, Shown.TheVariants.{Text, Object, LineBreak, Edge}}

abbrev pub part_bytes : Shown → List ℕ
part_bytes (Text text) = string_bytes text
part_bytes (Object tag) = 0xef ∷ 0xbf ∷ 0xbc ∷ []
part_bytes LineBreak = 10 ∷ []
part_bytes Edge = 10 ∷ []

abbrev pub is_edge : Shown → Bool
is_edge (Text text) = false
is_edge (Object tag) = false
is_edge LineBreak = false
is_edge Edge = true

-- without a leading edge
abbrev pub past_edge : List Shown → List Shown
past_edge [] = []
past_edge (p ∷ ps) = if is_edge p then ps else p ∷ ps

-- without a trailing edge
abbrev pub before_edge : List Shown → List Shown
before_edge [] = []
before_edge (p ∷ []) = if is_edge p then [] else p ∷ []
before_edge (p ∷ q ∷ ps) = p ∷ before_edge (q ∷ ps)

abbrev pub plain_text : List Shown → List ℕ
plain_text ps = flat_map part_bytes (before_edge (past_edge ps))
