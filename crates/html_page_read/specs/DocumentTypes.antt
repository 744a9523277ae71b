-- What a document type means for tables: whether a page is in quirks mode (HTML Standard 13.2.5.53
-- to 13.2.5.68, and 13.2.6.4.1).
use Rattle.std.specs.{Char.{to_ascii_lowercase}, List.{after_first, before_first, list_any}}
use Rattle.std.specs.Prelude.{ℕ, Bool, true, false, not, ◌&&◌, ◌||◌, ◌==◌, if◌then◌else◌, List, [], ◌∷◌, chars, codes, bytes_eq, drop, length, Option, Some, None, is_none, option_map, unwrap_or}
use Rattle.html_page_names.specs.ForeignNames.{lowered}
use Rattle.html_page_tree.specs.PageBodies.{is_space}
use Rattle.html_page_stack.specs.declared.modes.{TableRule.{TableRule}, TableRule.TheVariants.{ClosesP, KeepsP}}
use Rattle.html_page_read.specs.declared.doctype.DocumentType as read

-- a document type: its name in lowercase, its identifiers, and whether it forces quirks mode
pub record DocumentType : Type 0 where
  pub name : List ℕ
  pub public : Option (List ℕ)
  pub system : Option (List ℕ)
  pub forced : Bool

abbrev pub type_view : read.DocumentType → DocumentType
type_view kind = record {
  name = lowered (chars kind.name.now);
  public = option_map (λ t. chars t.now) kind.public;
  system = option_map (λ t. chars t.now) kind.system;
  forced = kind.forced;
}

-- a text without the white space at its front
abbrev pub past_spaces : List ℕ → List ℕ
past_spaces [] = []
past_spaces (c ∷ cs) = if is_space c then past_spaces cs else c ∷ cs

-- whether a text is a word, in any case; the word has no capitals
abbrev pub is_word : (word text : List ℕ) → Bool
is_word word text = bytes_eq (lowered text) word

-- whether a text begins with such a word
abbrev pub begins_with : (word text : List ℕ) → Bool
begins_with [] text = true
begins_with (w ∷ ws) [] = false
begins_with (w ∷ ws) (c ∷ cs) = (to_ascii_lowercase c == w) && begins_with ws cs

-- what stands behind such a word with which a text begins
abbrev pub past_word : (word text : List ℕ) → Option (List ℕ)
past_word word text = if begins_with word text then Some (drop (length word) text) else None

-- what stands before the first such character of a text, and what stands behind it
abbrev pub around : ℕ → List ℕ → Option (List ℕ × List ℕ)
around c text = if list_any (λ d. d == c) text
    then Some (before_first (λ d. d == c) text, after_first (λ d. d == c) text) else None

abbrev pub is_quote : ℕ → Bool
is_quote c = (c == 34) || (c == 39)

-- the identifier in quotes with which a text begins, and what stands behind it; none if the text
-- has no closing quote (13.2.5.59, 13.2.5.60, 13.2.5.65, 13.2.5.66)
abbrev pub quoted : List ℕ → Option (List ℕ × List ℕ)
quoted [] = None
quoted (c ∷ cs) = if is_quote c then around c cs else None

-- the document type with the system identifier that must stand here (13.2.5.63, 13.2.5.64)
abbrev pub with_system : DocumentType → Option (List ℕ × List ℕ) → DocumentType
with_system kind None = record kind { forced = true }
with_system kind (Some found) = record kind { system = Some found.0 }

-- the document type with what stands behind its public identifier (13.2.5.61, 13.2.5.62)
abbrev pub with_rest : DocumentType → List ℕ → DocumentType
with_rest kind text = if length text == 0 then kind else with_system kind (quoted text)

-- the document type with the public identifier that must stand here (13.2.5.57, 13.2.5.58)
abbrev pub with_public : DocumentType → Option (List ℕ × List ℕ) → DocumentType
with_public kind None = record kind { forced = true }
with_public kind (Some found) =
    with_rest (record kind { public = Some found.0 }) (past_spaces found.1)

-- the document type with what stands behind its name (13.2.5.56)
abbrev pub with_identifiers : DocumentType → List ℕ → DocumentType
with_identifiers kind text = if length text == 0 then kind
    else (if begins_with (codes "public") text
    then with_public kind (quoted (past_spaces (drop 6 text)))
    else (if begins_with (codes "system") text
    then with_system kind (quoted (past_spaces (drop 6 text)))
    else record kind { forced = true }))

-- a document type without identifiers (13.2.5.54, 13.2.5.55)
abbrev pub named : List ℕ → DocumentType
named name = record {
  name = lowered name;
  public = None;
  system = None;
  forced = length name == 0;
}

-- the document type with that text between `<!DOCTYPE` and `>`
abbrev pub document_type : (inner : List ℕ) → DocumentType
document_type inner = let text = past_spaces inner in
    with_identifiers (named (before_first is_space text)) (past_spaces (after_first is_space text))

-- the fronts of public identifiers that trigger quirks mode, in lowercase
abbrev pub quirky_fronts : List (List ℕ)
quirky_fronts =
    codes "+//silmaril//dtd html pro v0r11 19970101//"
    ∷ codes "-//as//dtd html 3.0 aswedit + extensions//"
    ∷ codes "-//advasoft ltd//dtd html 3.0 aswedit + extensions//"
    ∷ codes "-//ietf//dtd html 2.0 level 1//"
    ∷ codes "-//ietf//dtd html 2.0 level 2//"
    ∷ codes "-//ietf//dtd html 2.0 strict level 1//"
    ∷ codes "-//ietf//dtd html 2.0 strict level 2//"
    ∷ codes "-//ietf//dtd html 2.0 strict//"
    ∷ codes "-//ietf//dtd html 2.0//"
    ∷ codes "-//ietf//dtd html 2.1e//"
    ∷ codes "-//ietf//dtd html 3.0//"
    ∷ codes "-//ietf//dtd html 3.2 final//"
    ∷ codes "-//ietf//dtd html 3.2//"
    ∷ codes "-//ietf//dtd html 3//"
    ∷ codes "-//ietf//dtd html level 0//"
    ∷ codes "-//ietf//dtd html level 1//"
    ∷ codes "-//ietf//dtd html level 2//"
    ∷ codes "-//ietf//dtd html level 3//"
    ∷ codes "-//ietf//dtd html strict level 0//"
    ∷ codes "-//ietf//dtd html strict level 1//"
    ∷ codes "-//ietf//dtd html strict level 2//"
    ∷ codes "-//ietf//dtd html strict level 3//"
    ∷ codes "-//ietf//dtd html strict//"
    ∷ codes "-//ietf//dtd html//"
    ∷ codes "-//metrius//dtd metrius presentational//"
    ∷ codes "-//microsoft//dtd internet explorer 2.0 html strict//"
    ∷ codes "-//microsoft//dtd internet explorer 2.0 html//"
    ∷ codes "-//microsoft//dtd internet explorer 2.0 tables//"
    ∷ codes "-//microsoft//dtd internet explorer 3.0 html strict//"
    ∷ codes "-//microsoft//dtd internet explorer 3.0 html//"
    ∷ codes "-//microsoft//dtd internet explorer 3.0 tables//"
    ∷ codes "-//netscape comm. corp.//dtd html//"
    ∷ codes "-//netscape comm. corp.//dtd strict html//"
    ∷ codes "-//o'reilly and associates//dtd html 2.0//"
    ∷ codes "-//o'reilly and associates//dtd html extended 1.0//"
    ∷ codes "-//o'reilly and associates//dtd html extended relaxed 1.0//"
    ∷ codes "-//sq//dtd html 2.0 hotmetal + extensions//"
    ∷ codes "-//softquad software//dtd hotmetal pro 6.0::19990601::extensions to html 4.0//"
    ∷ codes "-//softquad//dtd hotmetal pro 4.0::19971010::extensions to html 4.0//"
    ∷ codes "-//spyglass//dtd html 2.0 extended//"
    ∷ codes "-//sun microsystems corp.//dtd hotjava html//"
    ∷ codes "-//sun microsystems corp.//dtd hotjava strict html//"
    ∷ codes "-//w3c//dtd html 3 1995-03-24//"
    ∷ codes "-//w3c//dtd html 3.2 draft//"
    ∷ codes "-//w3c//dtd html 3.2 final//"
    ∷ codes "-//w3c//dtd html 3.2//"
    ∷ codes "-//w3c//dtd html 3.2s draft//"
    ∷ codes "-//w3c//dtd html 4.0 frameset//"
    ∷ codes "-//w3c//dtd html 4.0 transitional//"
    ∷ codes "-//w3c//dtd html experimental 19960712//"
    ∷ codes "-//w3c//dtd html experimental 970421//"
    ∷ codes "-//w3c//dtd w3 html//"
    ∷ codes "-//w3o//dtd w3 html 3.0//"
    ∷ codes "-//webtechs//dtd mozilla html 2.0//"
    ∷ codes "-//webtechs//dtd mozilla html//"
    ∷ []

-- those that trigger it if there is no system identifier
abbrev pub quirky_alone : List (List ℕ)
quirky_alone =
    codes "-//w3c//dtd html 4.01 frameset//"
    ∷ codes "-//w3c//dtd html 4.01 transitional//"
    ∷ []

abbrev pub begins_with_one : List (List ℕ) → List ℕ → Bool
begins_with_one fronts text = list_any (λ f. begins_with f text) fronts

unfoldable pub is_quirky_word : List ℕ → Bool
is_quirky_word id = is_word (codes "-//w3o//dtd w3 html strict 3.0//en//") id
    || is_word (codes "-/w3c/dtd html 4.0 transitional/en") id || is_word (codes "html") id

unfoldable pub has_quirky_front : List ℕ → Bool
has_quirky_front id = begins_with_one quirky_fronts id

abbrev pub is_quirky_public : List ℕ → Bool
is_quirky_public id = is_quirky_word id || has_quirky_front id

unfoldable pub is_quirky_alone : List ℕ → Bool
is_quirky_alone id = begins_with_one quirky_alone id

unfoldable pub is_quirky_system : List ℕ → Bool
is_quirky_system =
    is_word (codes "http://www.ibm.com/data/dtd/v11/ibmxhtml1-transitional.dtd")

-- whether there is an identifier, and it passes the test
abbrev pub passes : (List ℕ → Bool) → Option (List ℕ) → Bool
passes test id = unwrap_or (option_map test id) false

-- whether a page with that document type is in quirks mode (13.2.6.4.1)
abbrev pub is_quirky : DocumentType → Bool
is_quirky kind = kind.forced || not (bytes_eq kind.name (codes "html"))
    || passes is_quirky_public kind.public || passes is_quirky_system kind.system
    || (is_none kind.system && passes is_quirky_alone kind.public)

-- the rule for tables that the text between `<!DOCTYPE` and `>` sets
unfoldable pub table_rule : (inner : List ℕ) → TableRule
table_rule inner = if is_quirky (document_type inner) then KeepsP else ClosesP
