-- Css properties: a finite map from names to texts, listed by name, and the text of a `style`
-- attribute (CSS Style Attributes, section 3).
use Rattle.std.specs.{BTreeMap.{insert_entry, is_at}, List.{flat_map}, Map.{lookup, remove_entry, keys_of}, Ordering.{nat_cmp}}
use Rattle.std.specs.{Prelude.{ℕ, List, [], ◌∷◌, ◌++◌, codes, map, Option}, Cmp.Lexicographic.{slice_cmp}, List.Sorted.{IsStrictlySortedBy}}
use Rattle.std.specs.declared.cmp.Ordering.{Ordering}
use lib.Utf8.{encodes}
use Rattle.html_names_core.specs.Texts.{text_view, TextPair}
use Rattle.std.specs.Arc.{arc_value}
use Rattle.html_values_css.specs.declared.{property.Property.{Property}, property_list.PropertyList.{PropertyList}}
use Rattle.html_values_css.specs.declared.property_list.PropertyList.TheVariants as several

abbrev pub property_view : Property → TextPair
property_view p = (text_view p.name, text_view p.value)

abbrev pub property_name : Property → List ℕ
property_name p = text_view p.name

abbrev pub list_view : List Property → List TextPair
list_view = map property_view

abbrev pub items_of : PropertyList → List Property
items_of several.None = []
items_of (several.One property) = arc_value property ∷ []
items_of (several.Some list) = list.value.items

-- the byte order of names
abbrev pub by_name : List ℕ → List ℕ → Ordering
by_name a b = slice_cmp nat_cmp (encodes a) (encodes b)

-- each name comes before the names after it, so no name is repeated
abbrev pub IsListed : List TextPair → Type 0
IsListed pairs = IsStrictlySortedBy by_name (keys_of pairs)

-- the value of a name
abbrev pub value_of : List TextPair → List ℕ → Option (List ℕ)
value_of pairs name = lookup (is_at (by_name name)) pairs

-- the pairs with that value of a name, at the index for its order or instead of the name's old
-- value
abbrev pub with_property : List TextPair → List ℕ → List ℕ → List TextPair
with_property pairs name value = insert_entry by_name pairs name value

-- the pairs without a name
abbrev pub without : List TextPair → List ℕ → List TextPair
without pairs name = remove_entry (is_at (by_name name)) pairs

abbrev pub declaration : TextPair → List ℕ
declaration p = p.0 ++ codes ": " ++ p.1

-- declarations after a first one
abbrev pub following_pairs : List TextPair → List ℕ
following_pairs = flat_map (λ p. codes "; " ++ declaration p)

-- the text of a `style` attribute: each `name: value`, joined by `; `
abbrev pub inline_text : List TextPair → List ℕ
inline_text [] = []
inline_text (p ∷ ps) = declaration p ++ following_pairs ps
