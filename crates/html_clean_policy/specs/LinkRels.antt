-- How many attributes stay, and the `rel` of links.
use Rattle.std.specs.List.{filter, list_any}
use Rattle.std.specs.Prelude.{ℕ, Bool, not, List, [], ◌∷◌, ◌++◌, codes, if◌then◌else◌, Option, Some, None, take}
use Rattle.html_names_core.specs.{Names.{listed_names, stands_in}, Texts.{TextPair}}

-- the number of attributes of an element that stay at most
abbrev pub most_attrs : ℕ
most_attrs = 256

abbrev pub most_before_rel : ℕ
most_before_rel = 255

unfoldable pub is_link : (element : List ℕ) → Bool
is_link element = stands_in (listed_names (codes "a area form")) element

-- whether an attribute of that name makes its element lead elsewhere
unfoldable pub is_target : (name : List ℕ) → Bool
is_target name = stands_in (listed_names (codes "action href")) name

unfoldable pub is_rel : (name : List ℕ) → Bool
is_rel name = stands_in (listed_names (codes "rel")) name

abbrev pub leads : List TextPair → Bool
leads = list_any (λ pair. is_target pair.0)

abbrev pub without_rel : List TextPair → List TextPair
without_rel = filter (λ pair. not (is_rel pair.0))

-- the attributes with that `rel` in place of each other one, if they have a target
abbrev pub with_rel : (rel : List ℕ) → List TextPair → List TextPair
with_rel rel pairs = if leads pairs then without_rel pairs ++ (codes "rel", rel) ∷ [] else pairs

abbrev pub cut_pairs : (rel : Option (List ℕ)) (element : List ℕ) → List TextPair → List TextPair
cut_pairs None element pairs = take most_attrs pairs
cut_pairs (Some rel) element pairs =
    if is_link element then with_rel rel (take most_before_rel pairs) else take most_attrs pairs
