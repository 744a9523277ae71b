-- The information about a document that its text does not show because its items have a root of
-- their own, as JSON: the names of the members that are there for it.
--     {"unused":["title","description","authors","keywords","lang","region","head"]}
use Rattle.std.specs.Prelude.{ℕ, List, [], ◌∷◌, ◌++◌, map, is_some, codes, chars, if◌then◌else◌}
use Rattle.serde_json.specs.{Data.{Data, string, array, object, member, no_members}, Find.{get}, View.{items_of}, Written.{compact_text}}
use Rattle.html_flow_convert.specs.Items.{no_items}
use Rattle.typst_html_export.specs.{Assembled.{items_document_faults}, OwnRoots.{have_own_root}}
use Rattle.typst_html_run.specs.Answers.{Answer, answer_if, answer_to, fault_refusal, first_refusal_or_text}
use Rattle.typst_html_json.specs.{Json.{json_of}, JsonPlaces.{input_place}, NameRefusals.{Refusal}}
use Rattle.typst_html_json.specs.SpelledDocuments.{Spelling, names_refusals, spelled_document}

-- the name, if the object has a member of that name
abbrev pub given_name : Data → (name : List ℕ) → List (List ℕ)
given_name d name = if is_some (get name d) then name ∷ [] else []

-- the names of the members of an object that are for information, also of those that hold none, as
-- an empty list does
abbrev pub given_names : Data → List (List ℕ)
given_names d = given_name d (codes "title") ++ given_name d (codes "description")
    ++ given_name d (codes "authors") ++ given_name d (codes "keywords")
    ++ given_name d (codes "lang") ++ given_name d (codes "region") ++ given_name d (codes "head")

-- all of these names if the items have a root of their own, and otherwise none
abbrev pub unused_names : (given : List (List ℕ)) → Spelling → List (List ℕ)
unused_names given s = if have_own_root s.items then given else []

abbrev pub unused_data : List (List ℕ) → Data
unused_data names =
    object (member (codes "unused") (array (items_of (map string names))) no_members)

abbrev pub unused_text : (given : List (List ℕ)) → Spelling → List ℕ
unused_text given s = chars (compact_text (unused_data (unused_names given s)))

-- what is wrong with the document of the items, without footnotes
abbrev pub unused_refusals : (limit : ℕ) → Spelling → List Refusal
unused_refusals limit s = map fault_refusal (items_document_faults limit s.items no_items)

-- the answer to a document with these names; names are refused before other faults
unfoldable pub unused_answer : (limit : ℕ) → (given : List (List ℕ)) → Spelling → Answer
unused_answer limit given s =
    first_refusal_or_text (names_refusals s ++ unused_refusals limit s) (unused_text given s)

-- the answer to a value
abbrev pub unused_value_answer : (limit : ℕ) → Data → Answer
unused_value_answer limit d = answer_to (unused_answer limit (given_names d)) (spelled_document d)

unfoldable pub unused_input_answer : (limit : ℕ) (input : List ℕ) → Answer
unused_input_answer limit input =
    answer_if (input_place input) (unused_value_answer limit) (json_of input)
