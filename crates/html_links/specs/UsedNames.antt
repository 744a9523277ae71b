-- The names in use as they are stored: a set of texts.
use Rattle.std.specs.{BTreeSet.{BTreeSet}, Prelude.{Bool, ◌||◌, List, map, String}, declared.alloc.Global.{Global}}
use Rattle.html_names_core.specs.{Names.{stands_in}, Texts.{text_view}}
use Rattle.html_links.specs.TreeNames.{Name}

abbrev pub used_in : BTreeSet (String Global) → Name → Bool
used_in used = stands_in (map text_view used.keys)

-- the names in use, with these names
abbrev pub with_names : List Name → (used : Name → Bool) → Name → Bool
with_names names used n = stands_in names n || used n
