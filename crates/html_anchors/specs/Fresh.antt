-- New names are new.
use Rattle.std.specs.Prelude.{◌≡◌, ℕ, ◌≤◌, ◌<◌, ◌^◌, Bool, true, false, List, [], ◌∷◌, ◌++◌, option_to_list}
use Rattle.html_dom_tree.specs.Tree.{ElementView}
use Rattle.html_names_core.specs.Names.{stands_in}
use Rattle.html_links.specs.{TreeNames.{Name, with_used_name, anchor_names, element_names}, UsedNames.{with_names}}
use Rattle.html_anchors.specs.{Anchors.{element_namings}, Events.{Targets}, Namings.{Naming}}
use Rattle.html_anchors.specs.{NewNames.{name_with_number, stem_of, first_number, first_free}, NumberedNames.{IsBounded}}

-- each name differs from those in use, and from those made before it
abbrev pub AreNew : (used : Name → Bool) → List Name → Type 0
AreNew used [] = Unit {0}
AreNew used (n ∷ ns) = (used n ≡ false) × AreNew (with_used_name n used) ns

abbrev pub names_made : Naming → List Name
names_made c = option_to_list c.made ++ anchor_names c.pairs

abbrev pub all_made : List Naming → List Name
all_made [] = []
all_made (c ∷ cs) = names_made c ++ all_made cs

-- each name made for a tree differs from those that it has, and from those made before it
abbrev pub MadeAreNew : Targets → ElementView → Type 0
MadeAreNew x e = AreNew (stands_in (element_names e)) (all_made (element_namings x e))

-- the names in use after all are made
abbrev pub used_at_last : Targets → ElementView → Name → Bool
used_at_last x e = with_names (all_made (element_namings x e)) (stands_in (element_names e))

-- the made names are new if at most 2 ^ 63 names are in use at last, as in each call that succeeds
abbrev pub NamesAreNew : Type 0
NamesAreNew = (x : Targets) (e : ElementView) → IsBounded (used_at_last x e) → MadeAreNew x e

-- the number in a new name is the first free one if at most 2 ^ 63 names are in use
abbrev pub IsFirstFree : Type 0
IsFirstFree = (label : Name) (used : Name → Bool) → IsBounded used →
    let stem = stem_of label in
    let n = first_free stem used (2 ^ 63) (first_number label) in
    (used (name_with_number stem n) ≡ false)
    × ((m : ℕ) → first_number label ≤ m → m < n → used (name_with_number stem m) ≡ true)
