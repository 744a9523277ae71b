-- Lists of names in which none comes twice, and how often a name comes.
use Rattle.std.specs.{Borrow.{Bor}, List.{count_by}, Prelude.{ℕ, Bool, true, not, ◌&&◌, List, [], ◌∷◌, bytes_eq, map, String}}
use Rattle.std.specs.declared.alloc.Global.{Global}
use Rattle.html_names_core.specs.{Names.{stands_in}, Texts.{text_view}}
use Rattle.html_links.specs.TreeNames.{Name}

-- no name is repeated
unfoldable pub are_distinct : List Name → Bool
are_distinct [] = true
are_distinct (n ∷ ns) = not (stands_in ns n) && are_distinct ns

-- how often a name occurs
unfoldable pub occurrences : List Name → Name → ℕ
occurrences names n = count_by (λ m. bytes_eq m n) names

-- the names behind references
abbrev pub names_view : List (Bor (String Global)) → List Name
names_view = map (λ name. text_view name.now)
