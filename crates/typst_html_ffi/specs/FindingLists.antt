-- Lists of the findings in a page, as JSON, each with its place:
--     [{NAME:t,"keeps":n,"path":[n,..],"offset":n,"line":n,"column":n},..]
use Rattle.std.specs.{List.{common_prefix_len}, Option.{option_map_or}, Prelude.{◌==◌, ℕ, List, [], ◌∷◌, map, drop, codes}}
use lib.Utf8.{encodes}
use Rattle.serde_json.specs.{Data.{Data, number, string, array, object, unsigned, Members, member, no_members}, View.{items_of}}
use Rattle.html_page_findings.specs.{ElementPaths.{element_at}, PlacedTexts.{Placed}}
use Rattle.html_dom_tree.specs.Tree.{ElementView}
use Rattle.html_page_read.specs.PagePlaces.{place_at}
use Rattle.html_text.specs.declared.place.Place.{Place}

-- the indices of a path
abbrev pub path_data : List ℕ → Data
path_data path = array (items_of (map (λ index. number (unsigned index)) path))

abbrev pub place_members : Place → Members
place_members place =
    member (codes "offset") (number (unsigned place.offset)) (
    member (codes "line") (number (unsigned place.line)) (
    member (codes "column") (number (unsigned place.column)) no_members))

-- where something stands: how many indices its path keeps of the previous one, the indices after
-- these, and a place
abbrev pub where_members : (keeps : ℕ) (rest : List ℕ) → Place → Members
where_members keeps rest place =
    member (codes "keeps") (number (unsigned keeps)) (
    member (codes "path") (path_data rest) (place_members place))

-- the length of the common prefix of both paths
abbrev pub kept_count : (previous path : List ℕ) → ℕ
kept_count = common_prefix_len (λ m n. m == n)

-- where the finding at a path stands, given the path of the previous one
abbrev pub where_behind : (previous path : List ℕ) → Place → Members
where_behind previous path place =
    let keeps = kept_count previous path in where_members keeps (drop keeps path) place

-- a finding: its text as the member of that name, and where it stands
abbrev pub finding_data : (name bytes : List ℕ) → (standing : Members) → Data
finding_data name bytes standing = object (member name (string bytes) standing)

-- given the place of each path
module _ (place_of : List ℕ → Place) where
  abbrev pub finding : (name previous : List ℕ) → Placed → Data
  finding name previous p =
      finding_data name (encodes p.1) (where_behind previous p.0 (place_of p.0))

  -- the findings, each with its place after the previous one
  abbrev pub findings_behind : (name previous : List ℕ) → List Placed → List Data
  findings_behind name previous [] = []
  findings_behind name previous (p ∷ ps) =
      finding name previous p ∷ findings_behind name p.0 ps

  -- the list of the findings; the first keeps no index
  abbrev pub findings : (name : List ℕ) → List Placed → Data
  findings name ps = array (items_of (findings_behind name [] ps))

-- how many bytes of its page stand before the element at a path, which is its span; 0 if there is
-- none, which is the case for no finding in a tree without frames
abbrev pub offset_at : (root : ElementView) → (path : List ℕ) → ℕ
offset_at root path = option_map_or (λ (e : ElementView). e.0.span) (element_at path root) 0

-- the place of that element in the text of its page
abbrev pub element_place : (text : List ℕ) → (root : ElementView) → (path : List ℕ) → Place
element_place text root path = place_at text (offset_at root path)
