-- The parts of what a JSON value spells, whether it spells a tree or items: texts, numbers and
-- attributes, and the fields of texts and of tags.
use Rattle.std.specs.Prelude.{ℕ, List, [], ◌∷◌, chars, true, Option, Some, None, option_map, option_and_then, Ok, Err, if◌then◌else◌}
use Rattle.serde_json.specs.{Data.{Data, null, Items, no_items, item}, Find.{as_str, as_array, as_number, as_u64}}
use Rattle.html_dom_tree.specs.Tree.{TextPair, TagView, starts, ends}
use Rattle.html_names_table.specs.NameTables.{with_name}
use Rattle.html_flow_places.specs.NamedLocations.{location_in}
use Rattle.typst_html_json.specs.{LeftForms.{Left, mapped, and_then, from_part}, Marks.{Mark, are_there}}
use Rattle.typst_html_json.specs.declared.input_forms.{Forms.{Forms}, Forms.TheVariants.{Document}}

-- the characters of a text
abbrev pub text_at : Data → Option (List ℕ)
text_at d = option_map chars (as_str d)

-- a whole number from 0 to 2^64 - 1
abbrev pub whole_at : Data → Option ℕ
whole_at d = option_and_then as_u64 (as_number d)

abbrev pub pair_form : Items → Option TextPair
pair_form (item name (item value no_items)) = option_and_then
    (λ n. option_map (λ v. (n, v)) (text_at value)) (text_at name)
pair_form _ = None

abbrev pub pair_at : Data → Option TextPair
pair_at d = option_and_then pair_form (as_array d)

abbrev pub pairs_of : Items → Option (List TextPair)
pairs_of no_items = Some []
pairs_of (item d ds) = option_and_then (λ pair. option_map (λ pairs. pair ∷ pairs) (pairs_of ds))
    (pair_at d)

abbrev pub pairs_at : Data → Option (List TextPair)
pairs_at d = option_and_then pairs_of (as_array d)

abbrev pub text_form : Items → Option (List ℕ)
text_form (item d no_items) = text_at d
text_form _ = None

-- the destination of a start, or none
abbrev pub dest_form : Items → Option (Option ℕ)
dest_form no_items = Some None
dest_form (item d no_items) = option_map Some (whole_at d)
dest_form _ = None

abbrev pub plain_start_form : Items → Option TagView
plain_start_form no_items = None
plain_start_form (item l ds) = option_and_then
    (λ d. option_map (λ l. starts l None d) (whole_at l)) (dest_form ds)

-- the destination that a value spells, or null for none
abbrev pub dest_at : Data → Option (Option ℕ)
dest_at null = Some None
dest_at d = option_map Some (whole_at d)

-- a start with a label
abbrev pub labelled_start : (l dest label : Data) → Option TagView
labelled_start l dest label = option_and_then (λ n. option_and_then (λ t. option_map
    (λ d. starts n (Some t) d) (dest_at dest)) (text_at label)) (whole_at l)

abbrev pub start_form : Forms → Items → Option TagView
start_form Document (item l (item dest (item label no_items))) = labelled_start l dest label
start_form forms fields = plain_start_form fields

abbrev pub end_form : Items → Option TagView
end_form (item l no_items) = option_map ends (whole_at l)
end_form _ = None

abbrev pub no_fields : Items → Option (Unit {0})
no_fields no_items = Some tt
no_fields (item d ds) = None

-- a node or item whose list holds no other numbered list
abbrev pub leaf : {A B : Type 0} → (made : A → B) → Option A → Mark → Left (B × Mark)
leaf made fields m = from_part m.lists (λ a. Ok (made a, m)) fields

-- a tag whose locations are numbers, in a value without names of locations
abbrev pub numbered_leaf : {B : Type 0} → (made : TagView → B) → Option TagView → Mark
    → Left (B × Mark)
numbered_leaf made tag m = from_part m.lists (λ t. if are_there m.names then Err m.lists
    else Ok (made t, record m { numbered = true })) tag

-- a tag of a name, in a value without numbers of locations; `made` makes it of the location and the
-- name
abbrev pub named_leaf : {B : Type 0} → (made : (location : ℕ) (name : List ℕ) → B)
    → Option (List ℕ) → Mark → Left (B × Mark)
named_leaf made name m = from_part m.lists (λ t. if m.numbered then Err m.lists
    else Ok (made (location_in m.names t) t, record m { names = with_name m.names t })) name

-- the element of the list that was opened last, made of its tag, its attributes and its content
abbrev pub element_from : {A B : Type 0} → (made : List ℕ → List TextPair → A → B) → Mark
    → (tag : Option (List ℕ)) (pairs : Option (List TextPair)) (inside : Left (A × Mark))
    → Left (B × Mark)
element_from made m tag pairs inside = from_part m.lists (λ t. from_part m.lists (λ ps.
    mapped (λ c. (made t ps c.0, c.1)) inside) pairs) tag

-- the first of a list, and then the rest
abbrev pub row_from : {A B : Type 0} → (add : A → B → B) → (first : Left (A × Mark))
    → (rest : Mark → Left (B × Mark)) → Left (B × Mark)
row_from add first rest = and_then (λ p. mapped (λ q. (add p.0 q.0, q.1)) (rest p.1)) first
