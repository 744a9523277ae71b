-- The nodes of a page that a browser would not leave where they are if its tree were written, as
-- JSON:
--     [{"rule":t,"why":t,"keeps":n,"path":[n,..],"offset":n,"line":n,"column":n},..]
use Rattle.std.specs.Prelude.{ℕ, List, [], ◌∷◌, codes}
use Rattle.serde_json.specs.{Data.{Data, string, array, object, member}, View.{items_of}}
use Rattle.html_page_nesting.specs.{Misnested.{Finding}, MisnestingTexts.{rule_name, rule_words}, declared.misnesting.Misnesting.{Misnesting}}
use Rattle.html_page_read.specs.PagePlaces.{place_at}
use Rattle.html_text.specs.declared.place.Place.{Place}
use Rattle.typst_html_ffi.specs.FindingLists.{where_behind}

-- the rule that a node breaks, and where it stands
abbrev pub node_data : (previous path : List ℕ) → Place → Misnesting → Data
node_data previous path place why = object (
    member (codes "rule") (string (rule_name why)) (
    member (codes "why") (string (rule_words why)) (where_behind previous path place)))

-- a node of a page: its place is that of its span, which for a text is that of the element that it
-- stands in
abbrev pub misnested_node : (text previous : List ℕ) → Finding → Data
misnested_node text previous f = node_data previous f.path (place_at text f.span) f.why

-- the nodes, each with its place after the previous one
abbrev pub misnested_behind : (text previous : List ℕ) → List Finding → List Data
misnested_behind text previous [] = []
misnested_behind text previous (f ∷ fs) =
    misnested_node text previous f ∷ misnested_behind text f.path fs

-- the list of the nodes of a page with that text; the first keeps no index
abbrev pub misnested_data : (text : List ℕ) → List Finding → Data
misnested_data text fs = array (items_of (misnested_behind text [] fs))
