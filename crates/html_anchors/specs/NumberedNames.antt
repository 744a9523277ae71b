-- The next number to try for each label, as it is stored beside the names in use.
use Rattle.std.specs.BTreeMap.{BTreeMap, get_by_text}
use Rattle.std.specs.Prelude.{◌≡◌, ℕ, ◌+◌, ◌≤◌, ◌<◌, ◌^◌, Bool, true, false, List, [], ◌∷◌, length, chars, String, Some}
use Rattle.std.specs.declared.alloc.Global.{Global}
use Rattle.html_names_core.specs.Names.{stands_in}
use Rattle.html_links.specs.TreeNames.{Name}
use Rattle.html_anchors.specs.NewNames.{name_with_number, stem_of, first_number}

abbrev pub is_nothing : Name → Bool
is_nothing [] = true
is_nothing (c ∷ cs) = false

-- all names with that label's numbers below `n` are in use
pub record AreUsedBelow (used : Name → Bool) (label : Name) (n : ℕ) : Type 0 where
  pub from_first : first_number label ≤ n
  pub within : n ≤ first_number label + 2 ^ 63
  pub below : (m : ℕ) → first_number label ≤ m → m < n →
      used (name_with_number (stem_of label) m) ≡ true

-- all names of a label with numbers below the next one to try are in use
abbrev pub IsCounted : (used : Name → Bool) → BTreeMap (String Global) ℕ → Type 0
IsCounted used next =
    (bs : List ℕ) (n : ℕ) → get_by_text next bs ≡ Some n → AreUsedBelow used (chars bs) n

-- a list of at most 2 ^ 63 names contains all that are in use
pub record IsBounded (used : Name → Bool) : Type 0 where
  pub names : List Name
  pub few : length names ≤ 2 ^ 63
  pub holds : (n : Name) → used n ≡ true → stands_in names n ≡ true
