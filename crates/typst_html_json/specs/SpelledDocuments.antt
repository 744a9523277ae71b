-- The document that a JSON object spells: the information about it, its items, its footnotes and
-- nodes for its head.
--     {"title": t, "description": t, "authors": [t, ..], "keywords": [t, ..], "lang": t, "region": t,
--      "items": [item, ..], "footnotes": [item, ..], "head": [node, ..]}
-- Each member may be left out, but a region needs a language. An object with any other member
-- spells nothing. Items have the forms of documents; the name of a place has the same location in
-- all of them. Names of elements and attributes are not checked here. The spans are the numbers
-- of the lists of items and nodes, counted from 1 through the items, then the footnotes, then the
-- head. If a member is wrong, or there is no object, the value leaves the form before the first
-- list, at 0.
use Rattle.std.specs.Prelude.{ℕ, List, [], ◌∷◌, ◌++◌, codes, bytes_eq, Option, Some, None, option_map, option_and_then, if◌then◌else◌}
use Rattle.serde_json.specs.{Data.{Data, array, Items, no_items, item, Members, no_members, member}, Find.{as_array, as_object}}
use Rattle.html_dom_document.specs.Documents.{InfoView, LocaleView, locale_of, no_info}
use Rattle.html_dom_tree.specs.Tree.{NodesView}
use Rattle.html_flow_convert.specs.Items.{ItemsView}
use Rattle.typst_html_json.specs.{Fields.{text_at}, LeftForms.{Left, mapped, and_then, from_part}, Marks.{Mark, at_start}}
use Rattle.typst_html_json.specs.NameRefusals.{Refusal, items_refusals, all_name_refusals}
use Rattle.typst_html_json.specs.Spelled as tree
use Rattle.typst_html_json.specs.{SpelledItems.{list_at}, declared.info_members.InfoMember.{InfoMember}}
use Rattle.typst_html_json.specs.declared.info_members.InfoMember.TheVariants.{Title, Description, Authors, Keywords, Lang, Region}
use Rattle.typst_html_json.specs.declared.input_forms.Forms.TheVariants.{Document}

-- the member of that name
abbrev pub named_member : (name : List ℕ) → Option InfoMember
named_member k = if bytes_eq k (codes "title") then Some Title
    else (if bytes_eq k (codes "description") then Some Description
    else (if bytes_eq k (codes "authors") then Some Authors
    else (if bytes_eq k (codes "keywords") then Some Keywords
    else (if bytes_eq k (codes "lang") then Some Lang
    else (if bytes_eq k (codes "region") then Some Region else None)))))

-- these texts, followed by those of a list
abbrev pub with_texts : List (List ℕ) → Items → Option (List (List ℕ))
with_texts texts no_items = Some texts
with_texts texts (item d ds) = option_and_then (λ t. with_texts (texts ++ t ∷ []) ds) (text_at d)

abbrev pub texts_at : Data → Option (List (List ℕ))
texts_at d = option_and_then (with_texts []) (as_array d)

-- the locale with that region, if there is a language
abbrev pub with_region : Option LocaleView → (region : List ℕ) → Option LocaleView
with_region None region = None
with_region (Some l) region = Some (record l { region = Some region })

-- the information with one more member
abbrev pub with_info_member : InfoView → InfoMember → Data → Option InfoView
with_info_member info Title d = option_map (λ t. record info { title = Some t }) (text_at d)
with_info_member info Description d =
    option_map (λ t. record info { description = Some t }) (text_at d)
with_info_member info Authors d = option_map (λ ts. record info { author = ts }) (texts_at d)
with_info_member info Keywords d = option_map (λ ts. record info { keywords = ts }) (texts_at d)
with_info_member info Lang d =
    option_map (λ t. record info { locale = Some (locale_of t) }) (text_at d)
with_info_member info Region d = option_and_then (λ t.
    option_map (λ l. record info { locale = Some l }) (with_region info.locale t)) (text_at d)

-- the parts of a document in an object: the information, and the lists of its items, its footnotes
-- and its head
pub record DocumentPartsView : Type 0 where
  pub info : InfoView
  pub items : Data
  pub footnotes : Data
  pub head : Data

-- no information, and empty lists
abbrev pub no_parts : DocumentPartsView
no_parts = record {
  info = no_info;
  items = array no_items;
  footnotes = array no_items;
  head = array no_items;
}

-- the parts with one more member of the information
abbrev pub with_known : DocumentPartsView → (name : List ℕ) → Data → Option DocumentPartsView
with_known parts name d = option_map (λ info. record parts { info = info })
    (option_and_then (λ member. with_info_member parts.info member d) (named_member name))

-- the value, if it is a list
abbrev pub list_value : Data → Option Data
list_value d = option_map array (as_array d)

-- the parts with one more member
abbrev pub with_member : DocumentPartsView → (name : List ℕ) → Data → Option DocumentPartsView
with_member parts name d = if bytes_eq name (codes "items")
    then option_map (λ items. record parts { items = items }) (list_value d)
    else (if bytes_eq name (codes "footnotes")
    then option_map (λ notes. record parts { footnotes = notes }) (list_value d)
    else (if bytes_eq name (codes "head")
    then option_map (λ head. record parts { head = head }) (list_value d)
    else with_known parts name d))

-- the parts with the members of an object, which are in the order of their names, so that "lang"
-- comes before "region"
abbrev pub with_members : DocumentPartsView → Members → Option DocumentPartsView
with_members parts no_members = Some parts
with_members parts (member name d ms) =
    option_and_then (λ more. with_members more ms) (with_member parts name d)

abbrev pub parts_at : Data → Option DocumentPartsView
parts_at d = option_and_then (with_members no_parts) (as_object d)

-- the information, the items, the footnotes, and the nodes for the head
pub record Spelling : Type 0 where
  pub info : InfoView
  pub items : ItemsView
  pub footnotes : ItemsView
  pub head : NodesView

-- the refusals of the names in the items, then in the footnotes, and then in the head
abbrev pub names_refusals : Spelling → List Refusal
names_refusals s =
    items_refusals s.items ++ items_refusals s.footnotes ++ all_name_refusals s.head

-- the document with the nodes for its head, which are read after the other parts
abbrev pub with_head : InfoView → (items notes : ItemsView) → (head : Data) → Mark → Left Spelling
with_head info items notes head m = mapped
    (λ nodes. record { info = info; items = items; footnotes = notes; head = nodes.0 })
    (tree.list_at head m)

-- the document of these parts: the items are read first, then the footnotes, then the head
abbrev pub spelling_from : DocumentPartsView → Left Spelling
spelling_from parts = and_then (λ items. and_then (λ notes.
    with_head parts.info items.0 notes.0 parts.head notes.1)
    (list_at Document parts.footnotes items.1)) (list_at Document parts.items at_start)

-- the document that a value spells
abbrev pub spelled_document : Data → Left Spelling
spelled_document d = from_part 0 spelling_from (parts_at d)
